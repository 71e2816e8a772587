-- Laws on the first number that applies, and on the tests that need no core; and a refusal read back from its number.
pub mod First
pub mod Apart
