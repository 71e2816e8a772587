-- What the contracts of `output` cite, and a theorem about it.
pub mod Page
pub mod Puts
pub mod Theorems
