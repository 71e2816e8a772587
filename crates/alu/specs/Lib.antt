-- What the contracts of `alu` cite.
pub mod Flags
pub mod Results
