-- What the call on a lent core gave.
pub mod InPlace
