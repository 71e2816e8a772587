-- What the calls for other languages return, and what they leave in the slices that they are lent.
pub mod Codes
pub mod Form
pub mod Dump
pub mod Numbers
pub mod Call
pub mod Replay
pub mod Trace
pub mod Theorems
