-- How numbers, flags, end letters and the lines of a trace are written, and the theorems about it.
pub mod Decimal
pub mod Text
pub mod Theorems
