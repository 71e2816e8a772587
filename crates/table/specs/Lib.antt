-- What the contracts of `table` cite, and the theorems about it.
pub mod Table
pub mod Theorems
