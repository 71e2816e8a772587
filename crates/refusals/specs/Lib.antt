-- What the contracts of `refusals` cite, and the theorems about it.
pub mod Refusals
pub mod Theorems
pub mod Verdicts
