-- Document 01, 'Calls and the instruction machine': what each call answers, and what becomes of core and memory, for every core and
-- memory. The contracts of the calls are equations with these, by way of Answers.
use Rattle.std.specs.Prelude.{Bool, true, false, cond, List, ℕ, eqb, length}
use Rattle.listing.specs.Answers as listing
use Rattle.listing.specs.Listing.{listing_answer, listing_memory}
use Rattle.effects.specs.Effect.{applied}
use Rattle.effects.specs.declared.Stop.{Stop}
use Rattle.effects.specs.declared.Stop.TheVariants.{Going, Halted, Undefined}
use Rattle.r8_core.specs.Cores.{Visible, visible_of, fresh_core}
use Rattle.r8_core.specs.Spent.{due_one, due_in_range}
use Rattle.r8_core.specs.Instruction.{takes, step_transition}
use Rattle.r8_core.specs.Numbers.{load_number, run_number, step_number, view_number}
use Rattle.r8_core.specs.Progress.{Progress, starting, cycles_on}
use Rattle.r8_core.specs.declared.Core.{Core}
use Rattle.r8_core.specs.declared.Transition.{Transition}
use Rattle.r8_core.specs.declared.End.{End}
use Rattle.r8_core.specs.declared.End.TheVariants.{H, U, B, M}

-- the answers: of reset, of load ('the words stored', their number), of run and step ('cycles used, instructions finished, and the
-- end'), of view ('all but the hidden registers': the cycle due, which is 1 where view is taken, and the clock come last); and a
-- refusal with its number, or with 'its number (and offset)'
pub data Answer : Type 0 where
  done : Answer
  stored : ℕ → Answer
  ran : ℕ → ℕ → End → Answer
  viewed : Visible → ℕ → ℕ → Answer
  refused : ℕ → Answer
  refused_at : ℕ → ℕ → Answer

-- 'the end: H halted, U undefined, B cycle 1 due, M otherwise'
abbrev pub going_end : Bool → End
going_end true = B
going_end false = M

abbrev pub end_of : Stop → Bool → End
end_of Going one_due = going_end one_due
end_of Halted one_due = H
end_of Undefined one_due = U

-- what a call gives back
pub record Reply : Type 0 where
  pub answer : Answer
  pub core : Core
  pub memory : List ℕ

-- 'A refusal returns its number .. and changes nothing'; with the number 0 the call is taken
abbrev pub unless : ℕ → Core → List ℕ → Reply → Reply
unless number core memory reply =
    cond (eqb number 0) reply (record { answer = refused number; core = core; memory = memory })

-- 'Reset leaves memory as it was and is never refused'
unfoldable pub reset : Core → List ℕ → Reply
reset core memory = record { answer = done; core = fresh_core; memory = memory }

-- load: 1, 7, then the lines
abbrev pub load_answer : listing.Answer → Answer
load_answer (listing.stored count) = stored count
load_answer (listing.refused number offset) = refused_at number offset

abbrev pub loaded_reply : List ℕ → Core → List ℕ → Reply
loaded_reply text core memory =
    record {
      answer = load_answer (listing_answer text (length memory));
      core = core;
      memory = listing_memory text memory;
    }

unfoldable pub load : List ℕ → Core → List ℕ → Reply
load text core memory = unless (load_number (length memory) (due_one core)) core memory (loaded_reply text core memory)

-- view, which looks at no memory
abbrev pub viewed_reply : Core → List ℕ → Reply
viewed_reply core memory =
    record { answer = viewed (visible_of core) core.due core.clock.0; core = core; memory = memory }

unfoldable pub view : Core → List ℕ → Reply
view core memory = unless (view_number (due_one core)) core memory (viewed_reply core memory)

-- 'run of b datapath cycles, fewer if the core stops', which answers 'cycles used, instructions finished, and the end'
abbrev pub ran_reply : Progress → Reply
ran_reply p =
    record {
      answer = ran p.used p.finished (end_of p.core.stop (due_one p.core));
      core = p.core;
      memory = p.memory;
    }

unfoldable pub run : ℕ → Core → List ℕ → Reply
run b core memory =
    unless (run_number (length memory) core.stop (due_in_range core) core.clock.0 b) core memory
    (ran_reply (cycles_on b (starting core memory)))

-- 'step of one instruction by the instruction engine'; 'Step answers the same'
abbrev pub stepped_reply : ℕ → Transition → List ℕ → Reply
stepped_reply cycles transition memory =
    record {
      answer = ran cycles 1 (end_of transition.core.stop (due_one transition.core));
      core = transition.core;
      memory = applied transition.store memory;
    }

unfoldable pub step : Core → List ℕ → Reply
step core memory =
    unless (step_number (length memory) core.stop (due_one core) core.clock.0) core memory
    (stepped_reply (takes memory (visible_of core)) (step_transition memory core) memory)
