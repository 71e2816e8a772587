-- What the contracts of `lines` cite, and the theorems about it.
pub mod Lines
pub mod Answers
pub mod Comment
pub mod Theorems
pub mod Walk
