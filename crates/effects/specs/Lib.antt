-- What the contracts of `effects` cite, and the theorems about it.
pub mod Effect
pub mod Hidden
pub mod Table
pub mod Cycles
pub mod Access
pub mod Theorems
