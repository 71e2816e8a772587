-- Laws on the lines and calls of a script, and its theorems.
pub mod Words
pub mod Decimals
pub mod Turns
pub mod Writes
pub mod Theorems
pub mod Played
pub mod Said
