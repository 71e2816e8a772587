-- The theorems on the bits of words.
pub mod Theorems
