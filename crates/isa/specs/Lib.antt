-- What the contracts of `isa` cite, in the order of document 01, 'Instruction table'.
pub mod Fields
pub mod Control
pub mod Cost
