-- Laws on what is written, and on what is answered; and the theorems.
pub mod Writes
pub mod Refusals
pub mod Bytes
pub mod Read
pub mod LoadedBack
pub mod Apart
