-- The instruction machine, and the theorems over every list of calls.
pub mod Machine
pub mod Theorem
pub mod Contracts
