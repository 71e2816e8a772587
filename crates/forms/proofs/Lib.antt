-- Laws that the proofs of `forms` share, and the theorems.
mod Displacement
mod Faults
pub mod Theorems
pub mod Means
pub mod Read
