-- Laws that the proofs of `r8` share, and the theorems.
mod Lengths
mod Numbers
mod Calls
mod Held
pub mod Theorems
pub mod Apart
pub mod Exactly
pub mod Dump
