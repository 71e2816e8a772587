-- The core, its engines and the calls, in the order of document 01, and the theorems about them; last, what only private contracts cite.
pub mod Cores
pub mod Spent
pub mod Datapath
pub mod Instruction
pub mod Numbers
pub mod Progress
pub mod Calls
pub mod Answers
pub mod Theorems
pub mod TheoremsOfCalls
pub mod WholeInstructions
