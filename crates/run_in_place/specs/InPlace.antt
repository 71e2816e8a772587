-- What a run on a lent core gave, read as a reply of Calls.
use Rattle.std.specs.Prelude.{List, ℕ, Result}
use Rattle.refusals.specs.declared.Refusal.{Refusal}
use Rattle.r8_core.specs.Calls.{Reply}
use Rattle.r8_core.specs.Answers.{run_answer_of}
use Rattle.r8_core.specs.declared.Core.{Core}
use Rattle.r8_core.specs.declared.Ran.{Ran}

-- the answer, with the core and the memory as they then are
abbrev pub in_place_gave : Result Ran Refusal → Core → List ℕ → Reply
in_place_gave answer core memory = record { answer = run_answer_of answer; core = core; memory = memory }
