-- How the answers of calls, and what a list of them left, are laid out as numbers, and the theorems about it.
pub mod Layout
pub mod Theorems
