-- Lists of calls, and what holds of every list.
pub mod Plays
pub mod Theorems
