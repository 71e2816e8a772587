-- The theorems of `printed`, and laws for its code.
pub mod Fits
pub mod Lines
