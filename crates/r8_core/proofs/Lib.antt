-- Laws about the definitions of `r8_core`, and its theorems.
pub mod Spent
pub mod Parts
pub mod Cycles
pub mod OneInstruction
pub mod WholeInstructions
pub mod Foreign
pub mod Bench
pub mod Refusals
pub mod Endings
pub mod Taken
pub mod Replies
pub mod Again
pub mod Apart
