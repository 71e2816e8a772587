-- What the contracts of `hexadecimal` cite, and the theorems about it.
pub mod Digits
pub mod Former
pub mod Theorems
