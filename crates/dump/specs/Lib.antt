-- What the contracts of `dump` cite, and the theorems about it.
pub mod Dump
pub mod Theorems
