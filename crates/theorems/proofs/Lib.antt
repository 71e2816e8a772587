-- Every theorem, with its proof.
pub mod Theorems
