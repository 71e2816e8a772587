-- Lists of calls given as data.
pub mod Replay
pub mod ReplayParts
pub mod Theorems
