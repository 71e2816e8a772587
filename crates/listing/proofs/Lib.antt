-- Laws on checking and storing a listing line by line.
pub mod Turns
pub mod Decided
pub mod Faults
pub mod Stores
pub mod Theorems
pub mod Numbers
pub mod Counts
pub mod Apart
