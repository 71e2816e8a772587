-- What the contracts of `script` cite, and the theorems about it.
pub mod Commands
pub mod Script
pub mod ScriptParts
pub mod Theorems
pub mod Played
pub mod Said
