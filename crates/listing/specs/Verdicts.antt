-- Only contracts of private functions and proofs cite this: the number of the verdict on one line, 0 where it has no fault.
use Rattle.std.specs.Prelude.{ℕ, Result, Ok, Err}
use Rattle.listing.specs.Answers.{fault_number}
use Rattle.listing.specs.declared.Fault.{Fault}

abbrev pub verdict_number : Result Unit Fault → ℕ
verdict_number (Ok passed) = 0
verdict_number (Err fault) = fault_number fault
