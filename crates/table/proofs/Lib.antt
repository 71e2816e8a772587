-- Laws of the table that its own proofs and those of other crates cite.
pub mod Table
pub mod Lines
pub mod Entries
pub mod Theorems
