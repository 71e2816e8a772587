-- Laws for the code of `trace`.
pub mod Rows
pub mod Findings
pub mod Cut
pub mod Theorems
