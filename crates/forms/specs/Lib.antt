-- What the contracts of `forms` cite.
pub mod Answers
pub mod Operands
pub mod Reading
pub mod Writing
pub mod Theorems
