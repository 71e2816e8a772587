-- The pages, and how they write words and results. No contract cites them: they are held to the calls by the theorems.
pub mod Notation
pub mod Instructions
pub mod Cycles
pub mod Forms
pub mod Theorems
