-- Document 01, 'Numbers from the input': what storing a listing answers.
use Rattle.std.specs.Prelude.{ℕ, Result, Ok, Err}
use Rattle.listing.specs.declared.Fault.{Fault}
use Rattle.listing.specs.declared.Fault.TheVariants.{IllFormed, NotAbove, PastEnd}
use Rattle.listing.specs.declared.FaultAt.{FaultAt}

-- the number of words stored; or the number of a refusal and 'its line's start offset'
pub data Answer : Type 0 where
  stored : ℕ → Answer
  refused : ℕ → ℕ → Answer

-- '2: line ill-formed. 3: address not above the one before. 4: address at or past L'
abbrev pub fault_number : Fault → ℕ
fault_number IllFormed = 2
fault_number NotAbove = 3
fault_number PastEnd = 4

abbrev pub store_answer : Result ℕ FaultAt → Answer
store_answer (Ok count) = stored count
store_answer (Err at) = refused (fault_number at.fault) at.offset
