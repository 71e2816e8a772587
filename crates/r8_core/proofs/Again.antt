-- The theorem `RunAgain` of specs/TheoremsOfCalls.antt: a run can be cut at every cycle.
use mathlib.Core.Path.{◌≡◌, refl, sym, ap, ◌∙◌}
use mathlib.Core.Bool.{Bool, true, false, not}
use mathlib.Core.List.{List}
use Prim.Native.Nat.{ℕ, zero, suc, ◌+◌, ◌≤◌}
use native.Mathlib.Omega.{arith}
use native.Mathlib.Nat.{add-zero}
use borrow.Author.Tests.{le-ltb}
use lib.ListN.{length}
use Rattle.effects.specs.declared.Stop.{Stop}
use Rattle.effects.specs.declared.Stop.TheVariants.{Going, Halted, Undefined}
use Rattle.r8_core.specs.Datapath.{due_cycle}
use Rattle.r8_core.specs.Spent.{due_one, due_in_range}
use Rattle.refusals.specs.Refusals.{wrong_length}
use Rattle.r8_core.specs.Numbers.{is_going, clock_full, run_number}
use Rattle.r8_core.specs.Progress.{Progress, starting, cycle_on, cycles_on}
use Rattle.r8_core.specs.Calls.{ran_reply, end_of, run}
use Rattle.r8_core.specs.TheoremsOfCalls.{RunAgain}
use Rattle.r8_core.specs.declared.Core.{Core}
use Rattle.r8_core.proofs.Cycles.{one_more, none_more, no_cycle, cycles_add, counted, cycles_counted}
use Rattle.r8_core.proofs.Endings.{budget, clock_moves, cycle_ticks}
use Rattle.r8_core.proofs.Refusals.{ready}
use Rattle.r8_core.proofs.Taken.{no_run_number, reply_own}
use Rattle.refusals.proofs.First.{passed, none_left}
use Rattle.r8_core.proofs.Replies.{applied_length}

-- cycles leave one of 1 to 4 due, and the memory's length
pub due_stays : (n : ℕ) (p : Progress) → due_in_range p.core ≡ true → due_in_range (cycles_on n p).core ≡ true
unfolding cycle_on
due_stays zero p due = rw (no_cycle p) due
due_stays (suc n) p due =
    by (is_going p.core.stop) refl (due_stays n (cycle_on p) (cycle_ticks p.memory p.core due).due)
  where
    by : (g : Bool) → is_going p.core.stop ≡ g → due_in_range (cycles_on n (cycle_on p)).core ≡ true
        → due_in_range (cycles_on (suc n) p).core ≡ true
    by true g ih = rw (one_more n p g) ih
    by false g ih = rw (none_more (suc n) p g) due

pub length_stays : (n : ℕ) (p : Progress) → length (cycles_on n p).memory ≡ length p.memory
unfolding cycle_on
length_stays zero p = rw (no_cycle p) refl
length_stays (suc n) p = by (is_going p.core.stop) refl (length_stays n (cycle_on p))
  where
    by : (g : Bool) → is_going p.core.stop ≡ g → length (cycles_on n (cycle_on p)).memory ≡ length (cycle_on p).memory
        → length (cycles_on (suc n) p).memory ≡ length p.memory
    by true g ih = rw (one_more n p g) (ih ∙ applied_length (due_cycle p.memory p.core).store p.memory)
    by false g ih = rw (none_more (suc n) p g) refl

-- a run that every number passes is its own reply
pub run_passed : (b : ℕ) (core : Core) (memory : List ℕ) → wrong_length (length memory) ≡ false → is_going core.stop ≡ true
    → due_in_range core ≡ true → core.clock.0 + b ≤ 4294967295
    → run b core memory ≡ ran_reply (cycles_on b (starting core memory))
unfolding run run_number
run_passed b core memory size going due room =
    let full : clock_full core.clock.0 b ≡ false = le-ltb 4294967295 (core.clock.0 + b) room in
    reply_own _ core memory (ran_reply (cycles_on b (starting core memory)))
    (passed 1 _ _ size ∙ passed 8 _ _ (ap not going) ∙ passed 7 _ _ (ap not due) ∙ passed 9 _ _ full ∙ none_left)

not_going : (s : Stop) → (s ≡ Going → ⊥) → is_going s ≡ false
not_going Going n = absurd (n refl)
not_going Halted n = refl
not_going Undefined n = refl

pub run_again : RunAgain
run_again core memory i j taken =
    let p = starting core memory in
    let q = cycles_on i p in
    let number = no_run_number core memory (i + j) taken in
    let r = ready _ _ _ _ _ number in
    let due = r.due in
    let moved = clock_moves i p due in
    let most = (budget i p).0 in
    let room = r.room in
    let first = run_passed i core memory r.size r.going due (omega arith) in
    let whole = run_passed (i + j) core memory r.size r.going due room ∙ ap ran_reply (cycles_add i j p) in
    let after = due_stays i p due in
    let s = starting q.core q.memory in
    let e = cycles_on j s in
    let size = ap wrong_length (length_stays i p) ∙ r.size in
    let second : is_going q.core.stop ≡ true → run j q.core q.memory ≡ ran_reply e =
    λ going. run_passed j q.core q.memory size going after (omega (arith, moved, most, room)) in
    let used = sym (add-zero q.used) in
    let finished = sym (add-zero q.finished) in
    let same : cycles_on j q ≡ counted q.used q.finished e =
    ap (cycles_on j) (λ k. record { core = q.core; memory = q.memory; used = used k; finished = finished k })
    ∙ cycles_counted j q.used q.finished s in
    rw (first, whole) (
      λ stopped. ap ran_reply (none_more j q (not_going q.core.stop stopped)),
      λ going. rw (second (ap is_going going), same) (
        q.used,
        q.finished,
        end_of q.core.stop (due_one q.core),
        e.used,
        e.finished,
        end_of e.core.stop (due_one e.core),
        refl,
        refl,
        refl,
        refl,
        refl,
      ),
    )
