-- Laws on digit values, and the theorems.
pub mod Values
pub mod Tables
pub mod Former
pub mod Theorems
pub mod Written
