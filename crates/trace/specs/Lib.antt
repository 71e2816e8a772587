-- What a listing's trace is, and the theorems about it.
pub mod Trace
pub mod TraceParts
pub mod Theorems
