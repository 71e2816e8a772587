-- What the code of the calls gives back, read as the answers and replies of Calls: document 01's number and values for each case.
use Rattle.std.specs.Prelude.{List, ℕ, Result, Ok, Err}
use Rattle.refusals.specs.Refusals.{refusal_number}
use Rattle.refusals.specs.declared.Refusal.{Refusal}
use Rattle.listing.specs.Answers.{fault_number}
use Rattle.r8_core.specs.Cores.{visible, fresh_core}
use Rattle.r8_core.specs.Calls.{Answer, done, stored, ran, viewed, refused, refused_at, Reply}
use Rattle.r8_core.specs.declared.Core.{Core}
use Rattle.r8_core.specs.declared.Ran.{Ran}
use Rattle.r8_core.specs.declared.ListingError.{ListingError}
use Rattle.r8_core.specs.declared.ListingError.TheVariants.{Refused, Faulty}
use Rattle.r8_core.specs.declared.Answered.{Answered}
use Rattle.r8_core.specs.declared.Snapshot.{Snapshot}

-- the answers
abbrev pub load_answer_of : Result ℕ ListingError → Answer
load_answer_of (Ok count) = stored count
load_answer_of (Err (Refused why)) = refused (refusal_number why)
load_answer_of (Err (Faulty at)) = refused_at (fault_number at.fault) at.offset

abbrev pub run_answer_of : Result Ran Refusal → Answer
run_answer_of (Ok r) = ran r.cycles.0 r.instructions.0 r.end
run_answer_of (Err why) = refused (refusal_number why)

abbrev pub view_answer_of : Result Snapshot Refusal → Answer
view_answer_of (Ok s) = viewed (visible s.regs s.pc s.sp s.flags s.stop) s.due s.clock.0
view_answer_of (Err why) = refused (refusal_number why)

-- what view shows of a core: all but the hidden registers
abbrev pub shown : Core → Snapshot
shown core =
    record {
      regs = core.regs;
      pc = core.pc;
      sp = core.sp;
      flags = core.flags;
      stop = core.stop;
      due = core.due;
      clock = core.clock;
    }

-- what a view showed; a refused one answers its number alone, and the papers leave free what it shows: it is a fresh core's snapshot
abbrev pub snapshot_of : Result Snapshot Refusal → Snapshot
snapshot_of (Ok s) = s
snapshot_of (Err why) = shown fresh_core

-- what each call gave back, with the memory as it then is. Reset and view are lent none and cannot change it: theirs are functions of the
-- memory there is, and hand it on
abbrev pub reset_gave : Core → List ℕ → Reply
reset_gave core memory = record { answer = done; core = core; memory = memory }

abbrev pub load_gave : Answered (Result ℕ ListingError) → List ℕ → Reply
load_gave r memory = record { answer = load_answer_of r.answer; core = r.core; memory = memory }

abbrev pub run_gave : Answered (Result Ran Refusal) → List ℕ → Reply
run_gave r memory = record { answer = run_answer_of r.answer; core = r.core; memory = memory }

abbrev pub view_gave : Answered (Result Snapshot Refusal) → List ℕ → Reply
view_gave r memory = record { answer = view_answer_of r.answer; core = r.core; memory = memory }
