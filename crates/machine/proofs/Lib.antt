-- Proofs of the theorems over every list of calls.
pub mod Runs
pub mod Relation
pub mod Calls
pub mod Theorem
pub mod Made
