-- Proofs of the theorems of `effects`.
pub mod Theorems
