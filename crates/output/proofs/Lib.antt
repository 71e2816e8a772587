-- Laws for the code of `output`.
pub mod Stores
