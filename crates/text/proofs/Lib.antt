-- The theorems of `text`, an end read back from its letter, and laws for the code of decimal text.
pub mod Apart
pub mod Digits
pub mod Shown
