-- Laws about the layout of answers, and its theorems.
pub mod Sizes
pub mod Onto
pub mod Back
pub mod Bank
pub mod Theorems
