-- The pages hold of the calls.
pub mod Fields
pub mod Overflow
pub mod Instructions
pub mod Cycles
pub mod Forms
pub mod Theorems
