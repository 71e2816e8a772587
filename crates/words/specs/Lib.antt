-- What the contracts of `words` cite.
pub mod Memory
pub mod Arithmetic
pub mod Theorems
