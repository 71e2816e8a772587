-- What the program r8trace writes, and the theorems about it.
pub mod Printed
pub mod Theorems
