-- Only contracts of private functions and proofs cite this: the number of what a call finds before it starts, 0 where the call is taken.
use Rattle.std.specs.Prelude.{Result, Ok, Err, ℕ}
use Rattle.refusals.specs.Refusals.{refusal_number}
use Rattle.refusals.specs.declared.Refusal.{Refusal}

abbrev pub verdict_number : Result Unit Refusal → ℕ
verdict_number (Ok taken) = 0
verdict_number (Err why) = refusal_number why
