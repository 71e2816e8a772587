-- The theorems `RunTaken`, `StepTaken` and `OthersTaken` of specs/TheoremsOfCalls.antt: where no number applies the reply is the call's own. And
-- `CycleExactly`, `RunByCycles`: by the clock and the cycle due.
use mathlib.Core.Path.{◌≡◌, refl, sym, ap, ◌∙◌}
use mathlib.Core.Logic.{◌⊎◌, inl, inr}
use mathlib.Core.Bool.{Bool, true, false, not, cond}
use mathlib.Core.List.{List}
use Prim.Native.Nat.{ℕ, ◌+◌, ◌≤◌, ◌<◌}
use native.Mathlib.Omega.{arith}
use native.Mathlib.Nat.{zero-add, add-zero}
use borrow.Author.Tests.{eq-eqb, le-ltb, not-false}
use lib.ListN.{length}
use Rattle.words.specs.Arithmetic.{bit}
use Rattle.refusals.specs.Refusals.{first_number}
use Rattle.refusals.specs.Theorems.{NoneApplies}
use Rattle.refusals.proofs.First.{none_found, none_applies}
use Rattle.effects.specs.declared.Stop.TheVariants.{Going}
use Rattle.effects.specs.Hidden.{no_hidden}
use Rattle.r8_core.specs.Cores.{with_hidden, visible_of}
use Rattle.r8_core.specs.Spent.{due_one, due_in_range}
use Rattle.r8_core.specs.Instruction.{after, memory_after, takes, core_after, step_transition}
use Rattle.r8_core.specs.Datapath.{idle, due_cycle, cycle_or_idle}
use Rattle.r8_core.specs.Numbers.{is_going, clock_full, load_number, run_number, step_number, view_number}
use Rattle.r8_core.specs.Progress.{Progress, starting, after_cycle, cycle_on, cycles_on, instruction_on}
use Rattle.r8_core.specs.Calls.{ran, viewed, end_of, Reply, unless, load_answer, loaded_reply, viewed_reply, ran_reply, stepped_reply, reset, load, view, run, step}
use Rattle.r8_core.specs.TheoremsOfCalls.{load_numbers, run_numbers, step_numbers, view_numbers, RunTaken, CycleExactly, StepTaken, OthersTaken, Letter, RunByCycles}
use Rattle.r8_core.specs.declared.Core.{Core}
use Rattle.r8_core.specs.declared.End.{End}
use Rattle.r8_core.specs.declared.Transition.{Transition}
use Rattle.r8_core.proofs.Spent.{due_when_one, range_when_one}
use Rattle.r8_core.proofs.Cycles.{later, no_cycle_due, within_clock, full_clock, one_more, no_cycle, only_going, cost_range}
use Rattle.r8_core.proofs.OneInstruction.{one_instruction, one_finished}
use Rattle.r8_core.proofs.Refusals.{Ready, ready, load_mean, run_mean, step_mean, view_mean}
use Rattle.r8_core.proofs.Endings.{letter, budget, clock_moves}

pub reply_own : (number : ℕ) (core : Core) (memory : List ℕ) (reply : Reply) → number ≡ 0 → unless number core memory reply ≡ reply
reply_own number core memory reply e = rw (eq-eqb number 0 e)

module _ (core : Core) (memory : List ℕ) (b : ℕ) (taken : NoneApplies (run_numbers b core memory)) where
  pub no_run_number : run_number (length memory) core.stop (due_in_range core) core.clock.0 b ≡ 0
  unfolding run_number
  no_run_number = none_found _ (run_numbers b core memory) (run_mean core memory b) taken

  run_own : run b core memory ≡ ran_reply (cycles_on b (starting core memory))
  unfolding run
  run_own = reply_own _ core memory (ran_reply (cycles_on b (starting core memory))) no_run_number

  run_due : due_in_range core ≡ true
  run_due = (ready _ _ _ _ _ no_run_number).due

pub run_taken : RunTaken
run_taken core memory b taken =
    let q = cycles_on b (starting core memory) in
    let own = run_own core memory b taken in
    let due = run_due core memory b taken in
    let most = budget b (starting core memory) in (
      q.used,
      q.finished,
      end_of q.core.stop (due_one q.core),
      ap (λ (r : Reply). r.answer) own,
      rw own (letter q.core),
      omega (arith, most.0),
      rw own (λ g. most.1 (ap is_going g) ∙ zero-add b),
      rw own (sym (add-zero q.core.clock.0) ∙ clock_moves b (starting core memory) due),
    )

-- where no cycle is done
none_due : (core : Core) (memory : List ℕ) → (core.due < 1) ⊎ (4 < core.due) → due_cycle memory core ≡ idle core
none_due core memory (inl low) =
    later memory core (λ e. omega arith)
    ∙ no_cycle_due memory core _ (λ e. omega arith) (λ e. omega arith) (λ e. omega arith)
none_due core memory (inr high) =
    later memory core (λ e. omega arith)
    ∙ no_cycle_due memory core _ (λ e. omega arith) (λ e. omega arith) (λ e. omega arith)

none_done : (core : Core) (memory : List ℕ) → (4294967295 ≤ core.clock.0) ⊎ ((core.due < 1) ⊎ (4 < core.due))
    → cycle_or_idle memory core ≡ idle core
unfolding cycle_or_idle
none_done core memory (inl full) = full_clock memory core full
none_done core memory (inr out) =
    ap (cond (clock_full core.clock.0 1) (idle core)) (none_due core memory out) ∙ by (clock_full core.clock.0 1)
  where
    by : (full : Bool) → cond full (idle core) (idle core) ≡ idle core
    by true = refl
    by false = refl

pub cycle_exactly : CycleExactly
cycle_exactly core memory = (λ room. within_clock memory core room, λ out. none_done core memory out)

-- the reply of a run that comes to p
run_comes : (b : ℕ) (core : Core) (memory : List ℕ) (p : Progress) (n : ℕ) → p.finished ≡ n → run b core memory ≡ ran_reply p
    → ((run b core memory).core ≡ p.core)
    × ((run b core memory).memory ≡ p.memory)
    × ((end : End) × ((run b core memory).answer ≡ ran p.used n end) × Letter end p.core)
run_comes b core memory p n f e = (
  ap (λ (r : Reply). r.core) e,
  ap (λ (r : Reply). r.memory) e,
  (
    end_of p.core.stop (due_one p.core),
    ap (λ (r : Reply). r.answer) e ∙ ap (λ (x : ℕ). ran p.used x (end_of p.core.stop (due_one p.core))) f,
    letter p.core,
  ),
)

pub run_by_cycles : RunByCycles
unfolding cycle_on
run_by_cycles core memory = (
  λ taken. run_comes 0 core memory (starting core memory) 0 refl
      (run_own core memory 0 taken ∙ ap ran_reply (no_cycle (starting core memory))),
  λ taken. let r = ready _ _ _ _ _ (no_run_number core memory 1 taken) in
      let room = r.room in
      run_comes 1 core memory (after_cycle (cycle_or_idle memory core) (starting core memory)) (bit (cycle_or_idle memory core).finished) (zero-add _)
      (run_own core memory 1 taken
      ∙ ap ran_reply (one_more 0 (starting core memory) r.going ∙ no_cycle (cycle_on (starting core memory)))
      ∙ ap (λ (t : Transition). ran_reply (after_cycle t (starting core memory))) (sym (within_clock memory core (omega arith)))),
)

-- a step asks for more than a run of its instruction's cost
module _ (core : Core) (memory : List ℕ) (taken : NoneApplies (step_numbers core memory)) where
  no_step_number : step_number (length memory) core.stop (due_one core) core.clock.0 ≡ 0
  unfolding step_number run_number
  no_step_number = none_found _ (step_numbers core memory) (step_mean core memory) taken

  step_own : step core memory ≡ stepped_reply (takes memory (visible_of core)) (step_transition memory core) memory
  unfolding step
  step_own = reply_own _ core memory (stepped_reply (takes memory (visible_of core)) (step_transition memory core) memory) no_step_number

  step_ready : Ready (length memory) core.stop (due_one core) core.clock.0 4
  unfolding step_number
  step_ready = ready _ _ _ _ _ no_step_number

  step_going : core.stop ≡ Going
  step_going = only_going core.stop step_ready.going

  step_due : due_one core ≡ true
  step_due = step_ready.due

  no_run_number_of_cost :
      run_number (length memory) core.stop (due_in_range core) core.clock.0 (takes memory (visible_of core)) ≡ 0
  unfolding run_number first_number
  no_run_number_of_cost =
      let r = step_ready in
      let few = (cost_range memory (visible_of core)).1 in
      let room = r.room in
      let full = le-ltb 4294967295 (core.clock.0 + takes memory (visible_of core)) (omega arith) in
      rw (full, r.size, step_going, range_when_one core step_due)

  run_of_cost : run (takes memory (visible_of core)) core memory
      ≡ ran_reply (cycles_on (takes memory (visible_of core)) (starting core memory))
  unfolding run
  run_of_cost = reply_own _ core memory (ran_reply (cycles_on (takes memory (visible_of core)) (starting core memory))) no_run_number_of_cost

pub step_taken : StepTaken
unfolding step_transition memory_after instruction_on core_after
step_taken core memory taken =
    let v = visible_of core in
    let whole = (one_instruction (starting core memory) (step_going core memory taken) (step_due core memory taken)).1 in
    let f = one_finished (starting core memory) (step_going core memory taken) (step_due core memory taken) in
    let q = cycles_on (takes memory v) (starting core memory) in
    let stepped = step_own core memory taken in
    let ranned = run_of_cost core memory taken in
    let cycles = f.used ∙ zero-add (takes memory v) in
    let finished = f.finished in
    let visible = f.visible in
    let one = f.due in
    let due = due_when_one q.core one in
    let answer : (ran_reply q).answer ≡ (stepped_reply (takes memory v) (step_transition memory core) memory).answer =
    λ j. ran (cycles j) (finished j) (end_of (visible j).stop (one j)) in (
      end_of (after memory v).stop true,
      ap (λ (r : Reply). r.answer) stepped,
      rw stepped (letter (step_transition memory core).core),
      rw (ranned, stepped) answer,
      rw (ranned, stepped) f.memory,
      rw ranned due,
      rw (ranned, stepped) (sym (ap (λ (p : Progress). with_hidden no_hidden p.core) whole)),
    )

pub others_taken : OthersTaken
unfolding load load_number view view_number reset
others_taken core memory text = (
  λ taken. let none = none_found _ (load_numbers core memory) (load_mean core memory) taken in
      let own = reply_own _ core memory (loaded_reply text core memory) none in (
        λ count e. ap (λ (r : Reply). r.answer) own ∙ ap load_answer e,
        λ number offset e. ap (λ (r : Reply). r.answer) own ∙ ap load_answer e,
        ap (λ (r : Reply). r.memory) own,
        ap (λ (r : Reply). r.core) own,
      ),
  λ taken. let none = none_found _ (view_numbers core) (view_mean core memory) taken in
      let own = reply_own _ core memory (viewed_reply core memory) none in
      let due = due_when_one core (not-false (due_one core) (none_applies 6 (not (due_one core)) _ none).0) in (
        ap (λ (r : Reply). r.answer) own ∙ ap (λ (n : ℕ). viewed (visible_of core) n core.clock.0) due,
        ap (λ (r : Reply). r.memory) own,
        ap (λ (r : Reply). r.core) own,
      ),
  refl,
  refl,
  refl,
)
