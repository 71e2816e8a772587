-- The theorems of specs/Theorems.antt: from a fresh core steps go where the cycles of the run go.
use mathlib.Core.Path.{◌≡◌, refl, ap, ◌∙◌}
use mathlib.Core.List.{List}
use Prim.Native.Nat.{ℕ, suc, ◌≤◌}
use native.Mathlib.Numerals.{add-one}
use native.Mathlib.Omega.{arith}
use lib.Dec.{lit≤}
use lib.ListN.{length}
use Rattle.r8_core.specs.Cores.{fresh_core}
use Rattle.r8_core.specs.Spent.{spent_of, due_in_range, due_one}
use Rattle.r8_core.specs.Progress.{starting, cycles_on}
use Rattle.r8_core.specs.Calls.{Reply, ran_reply, run}
use Rattle.r8_core.proofs.Again.{due_stays}
use Rattle.trace.specs.Trace.{cycles_of, instructions_of, rows_of, no_room}
use Rattle.trace.specs.Theorems.{cycles_in, RowsOfTheRun, CyclesAddUp, RoomAlways}
use Rattle.trace.proofs.Findings.{fresh_run, by_cases}
use Rattle.trace.proofs.Cut.{Same, Cut, cut, add_up, row_of_lem}

module _ (memory : List ℕ) (size : length memory ≡ 16384) where
  start : Same (starting fresh_core memory) fresh_core memory 1000
  start = record { visible = refl; words = refl; due = refl; one = refl; size = size; room = lit≤ tt }

  whole : run 1000 fresh_core memory ≡ ran_reply (cycles_on 1000 (starting fresh_core memory))
  whole = fresh_run 1000 memory size (lit≤ tt)

  count : instructions_of (run 1000 fresh_core memory).answer ≡ (cycles_on 1000 (starting fresh_core memory)).finished
  count = ap (λ (r : Reply). instructions_of r.answer) whole

  cut_there : (i : ℕ) → i ≤ instructions_of (run 1000 fresh_core memory).answer
      → Cut i (cycles_in (rows_of i fresh_core memory)) 1000 (starting fresh_core memory)
  cut_there i few = cut i (starting fresh_core memory) fresh_core memory 1000 start (omega (arith, count))

  cut_run : (i : ℕ) → i ≤ instructions_of (run 1000 fresh_core memory).answer
      → run (cycles_in (rows_of i fresh_core memory)) fresh_core memory
      ≡ ran_reply (cycles_on (cycles_in (rows_of i fresh_core memory)) (starting fresh_core memory))
  cut_run i few = fresh_run (cycles_in (rows_of i fresh_core memory)) memory size (cut_there i few).within

  few_instructions : instructions_of (run 1000 fresh_core memory).answer ≤ 500
  few_instructions =
      let c = cut_there (instructions_of (run 1000 fresh_core memory).answer) (omega arith) in omega (arith, c.within, c.twice)

pub rows_of_the_run : RowsOfTheRun
rows_of_the_run memory i size = (
  λ few. let c = cut_there memory size i few in
      let own = cut_run memory size i few in (
        c.within,
        ap (λ (r : Reply). instructions_of r.answer) own ∙ c.finished ∙ (omega arith),
        ap (λ (r : Reply). due_one r.core) own ∙ c.due,
      ),
  λ few. rw (add-one, cut_run memory size i (omega arith), cut_run memory size (suc i) (omega arith))
      (row_of_lem i (starting fresh_core memory) fresh_core memory 1000 (start memory size) (omega (arith, count memory size))),
)

pub cycles_add_up : CyclesAddUp
cycles_add_up memory size =
    let n = instructions_of (run 1000 fresh_core memory).answer in
    let sum = add_up n (starting fresh_core memory) fresh_core memory 1000 (start memory size) (omega (arith, count memory size)) in
    let run = whole memory size in (
      ap (λ (r : Reply). due_in_range r.core) run ∙ due_stays 1000 (starting fresh_core memory) refl,
      omega (arith, sum, ap (λ (r : Reply). spent_of r.core) run, ap (λ (r : Reply). cycles_of r.answer) run),
    )

pub room_always : RoomAlways
room_always listing rows long =
    by_cases (λ f. f ≡ no_room → ⊥) listing rows
    (λ f. let z : ◌≡◌ {A = ℕ} 0 1 = cc in omega arith)
    (λ number offset short said f. let z : ◌≡◌ {A = ℕ} 0 1 = cc in omega arith)
    (λ memory size h f. omega (arith, long, h, few_instructions memory size))
    (λ memory size h f. let z : ◌≡◌ {A = ℕ} 0 1 = cc in omega arith)
