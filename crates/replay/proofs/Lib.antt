-- Laws for the code of a replay, and its theorem.
pub mod Readings
pub mod Plays
pub mod Replayed
pub mod Told
