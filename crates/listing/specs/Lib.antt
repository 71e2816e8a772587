-- What the contracts of `listing` cite, and the theorems about it.
pub mod Answers
pub mod Listing
pub mod Theorems
pub mod Verdicts
