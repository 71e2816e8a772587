-- Proofs of the theorems on lists of calls.
pub mod Plays
