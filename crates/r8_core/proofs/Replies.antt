-- Laws for the code of the calls: the reply that a number makes, and where a call starts.
use Rattle.std.specs.Prelude.{Option, Some, None}
use mathlib.Core.Path.{◌≡◌, refl, sym, ap, ◌∙◌}
use mathlib.Core.Bool.{Bool, true, false, cond}
use mathlib.Core.List.{List}
use borrow.Author.Tests.{ne_eqb}
use Prim.Native.Nat.{ℕ, ◌-◌, ◌≤◌}
use native.Mathlib.Omega.{arith}
use lib.Dec.{lit≤}
use lib.ListN.{length, length-set}
use Rattle.words.specs.Arithmetic.{bit}
use Rattle.refusals.specs.Refusals.{refusal_number}
use Rattle.refusals.specs.declared.Refusal.{Refusal}
use Rattle.refusals.proofs.First.{has_number}
use Rattle.effects.specs.Effect.{applied}
use Rattle.effects.specs.declared.Store.{Store}
use Rattle.r8_core.specs.Cores.{visible_of}
use Rattle.r8_core.specs.Instruction.{takes, step_transition}
use Rattle.r8_core.specs.Spent.{due_one, due_in_range}
use Rattle.r8_core.specs.Numbers.{run_number, step_number}
use Rattle.r8_core.specs.Progress.{Progress, starting, cycles_on}
use Rattle.r8_core.specs.Calls.{refused, Reply, unless, ran_reply, stepped_reply, run, step}
use Rattle.r8_core.specs.declared.Core.{Core}
use Rattle.r8_core.proofs.Cycles.{no_cycle}
use Rattle.r8_core.proofs.Taken.{reply_own}

-- a number makes a refusal of a reply, and 0 leaves it
pub refused_reply : (number : ℕ) (why : Refusal) (core : Core) (memory : List ℕ) (reply : Reply) → refusal_number why ≡ number
    → record { answer = refused (refusal_number why); core = core; memory = memory } ≡ unless number core memory reply
refused_reply number why core memory reply e =
    let nonzero = ne_eqb (refusal_number why) 0 (has_number why) in
    sym (ap (λ (zero : Bool). cond zero reply (record { answer = refused (refusal_number why); core = core; memory = memory })) nonzero)
    ∙ ap (λ (n : ℕ). unless n core memory reply) e

-- where a run or a step starts: with its numbers passed the reply is the call's own
pub run_starts : (b : ℕ) (core : Core) (memory : List ℕ)
    → run_number (length memory) core.stop (due_in_range core) core.clock.0 b ≡ 0
    → run b core memory ≡ ran_reply (cycles_on (b - 0) (starting core memory))
unfolding run
run_starts b core memory e =
    reply_own _ core memory (ran_reply (cycles_on b (starting core memory))) e
    ∙ ap (λ (n : ℕ). ran_reply (cycles_on n (starting core memory))) (omega arith)

pub step_starts : (core : Core) (memory : List ℕ) → run_number (length memory) core.stop (due_one core) core.clock.0 4 ≡ 0
    → step core memory ≡ stepped_reply (takes memory (visible_of core)) (step_transition memory core) memory
unfolding step step_number
step_starts core memory e =
    reply_own _ core memory (stepped_reply (takes memory (visible_of core)) (step_transition memory core) memory) e

-- a run that has done its cycles
pub run_over : (b : ℕ) (p : Progress) → b ≤ p.used → cycles_on (b - p.used) p ≡ p
run_over b p e = ap (λ (n : ℕ). cycles_on n p) (omega arith) ∙ no_cycle p

-- a count grows by 1 at most, and a store keeps the memory's length
pub bit_small : (b : Bool) → bit b ≤ 1
bit_small true = lit≤ tt
bit_small false = lit≤ tt

pub applied_length : (store : Option Store) (memory : List ℕ) → length (applied store memory) ≡ length memory
applied_length None memory = refl
applied_length (Some store) memory = length-set memory store.address store.word
