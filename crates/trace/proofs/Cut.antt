-- Laws of a run that is cut between instructions: steps go where its cycles go.
use mathlib.Core.Path.{◌≡◌, refl, sym, ap, ◌∙◌}
use mathlib.Core.Logic.{◌⊎◌, inl, inr}
use mathlib.Core.Bool.{Bool, true, false, not}
use mathlib.Core.List.{List, [], ◌∷◌, ◌++◌}
use Prim.Native.Nat.{ℕ, zero, suc, ◌+◌, ◌-◌, ◌*◌, ◌≤◌, ◌<◌}
use native.Mathlib.Omega.{arith}
use native.Mathlib.Nat.{add-zero}
use borrow.Author.Tests.{le-ltb, leb-true, leb-false}
use lib.Dec.{leb}
use lib.ListN.{length}
use Rattle.words.specs.Memory.{word_at}
use Rattle.effects.specs.declared.Stop.TheVariants.{Going}
use Rattle.r8_core.specs.Cores.{Visible, visible_of}
use Rattle.r8_core.specs.Spent.{spent_of, due_one}
use Rattle.r8_core.specs.Instruction.{after, memory_after, takes, step_transition}
use Rattle.refusals.specs.Refusals.{wrong_length}
use Rattle.r8_core.specs.Numbers.{is_going, run_number}
use Rattle.r8_core.specs.Progress.{Progress, cycle_on, cycles_on}
use Rattle.r8_core.specs.Calls.{Reply, stepped_reply, step}
use Rattle.r8_core.specs.declared.Core.{Core}
use Rattle.r8_core.proofs.Spent.{none_spent_lem}
use Rattle.r8_core.proofs.Cycles.{no_cycle, one_more, none_more, cycles_add, only_going, cost_range}
use Rattle.r8_core.proofs.OneInstruction.{one_finished, one_instruction}
use Rattle.refusals.proofs.First.{passed, none_left}
use Rattle.r8_core.proofs.Replies.{step_starts, applied_length}
use Rattle.layout.specs.Layout.{flags_number}
use Rattle.trace.specs.Trace.{cycles_of, row_of, rows_of}
use Rattle.trace.specs.Theorems.{cycles_in}

-- instructions finished stay finished
grows : (n : ℕ) (p : Progress) → p.finished ≤ (cycles_on n p).finished
unfolding cycle_on
grows zero p = rw (no_cycle p) (omega arith)
grows (suc n) p = by (is_going p.core.stop) refl (grows n (cycle_on p))
  where
    by : (g : Bool) → is_going p.core.stop ≡ g → (cycle_on p).finished ≤ (cycles_on n (cycle_on p)).finished
        → p.finished ≤ (cycles_on (suc n) p).finished
    by true g ih = rw (one_more n p g) (omega arith)
    by false g ih = rw (none_more (suc n) p g) (omega arith)

-- a core that steps and a run stand before the same instruction, with b cycles left
pub record Same (q : Progress) (core : Core) (memory : List ℕ) (b : ℕ) : Type 0 where
  pub visible : visible_of q.core ≡ visible_of core
  pub words : q.memory ≡ memory
  pub due : due_one q.core ≡ true
  pub one : due_one core ≡ true
  pub size : length memory ≡ 16384
  pub room : core.clock.0 + b + 4 ≤ 4294967295

-- and after one instruction more, of c cycles
record Next (q : Progress) (core : Core) (memory : List ℕ) (b c : ℕ) : Type 0 where
  pub cycles : cycles_of (step core memory).answer ≡ c
  pub some : 2 ≤ c
  pub within : c ≤ b
  pub same : Same (cycles_on c q) (step core memory).core (step core memory).memory (b - c)
  pub finished : (cycles_on c q).finished ≡ q.finished + 1
  pub used : (cycles_on c q).used ≡ q.used + c
  pub rest : cycles_on b q ≡ cycles_on (b - c) (cycles_on c q)

-- or after the cycles left, with no instruction more
record Last (q : Progress) (b : ℕ) : Type 0 where
  finished : (cycles_on b q).finished ≡ q.finished
  used : q.used + spent_of (cycles_on b q).core ≡ (cycles_on b q).used

module _ (q : Progress) (core : Core) (memory : List ℕ) (b : ℕ) (s : Same q core memory b) where
  cost : takes q.memory (visible_of q.core) ≡ takes memory (visible_of core)
  cost = λ j. takes (s.words j) (s.visible j)

  step_is : core.stop ≡ Going → step core memory ≡ stepped_reply (takes memory (visible_of core)) (step_transition memory core) memory
  unfolding run_number
  step_is going =
      let size : wrong_length (length memory) ≡ false = ap wrong_length s.size in
      let clock = le-ltb 4294967295 (core.clock.0 + 4) (omega (arith, s.room)) in
      step_starts core memory
      (passed 1 _ _ size
      ∙ passed 8 _ _ (ap (λ x. not (is_going x)) going)
      ∙ passed 7 _ _ (ap not s.one)
      ∙ passed 9 _ _ clock
      ∙ none_left)

  taken : q.core.stop ≡ Going → takes memory (visible_of core) ≤ b → Next q core memory b (takes memory (visible_of core))
  unfolding step_transition memory_after
  taken going within =
      let c = takes memory (visible_of core) in
      let f = rw cost at (one_finished q going s.due) in
      let stepped = step_is (sym (ap (λ (v : Visible). v.stop) s.visible) ∙ going) in
      let put = ap (λ (r : Reply). r.memory) stepped in
      record {
        cycles = ap (λ (r : Reply). cycles_of r.answer) stepped;
        some = (cost_range memory (visible_of core)).0;
        within = within;
        same =
            record {
              visible =
                  f.visible
                  ∙ (λ j. after (s.words j) (s.visible j))
                  ∙ sym (ap (λ (r : Reply). visible_of r.core) stepped);
              words = f.memory ∙ (λ j. memory_after (s.words j) (s.visible j)) ∙ sym put;
              due = f.due;
              one = ap (λ (r : Reply). due_one r.core) stepped;
              size = ap length put ∙ applied_length (step_transition memory core).store memory ∙ s.size;
              room = omega (arith, s.room, ap (λ (r : Reply). r.core.clock.0) stepped);
            };
        finished = f.finished;
        used = f.used ∙ ap (λ (n : ℕ). q.used + n) cost;
        rest = ap (λ (n : ℕ). cycles_on n q) {y = c + (b - c)} (omega arith) ∙ cycles_add c (b - c) q;
      }

  -- the cycles left are enough for it; or they are spent in it, or the core is stopped
  one_way : Next q core memory b (takes memory (visible_of core)) ⊎ Last q b
  one_way = by (is_going q.core.stop) (leb (takes memory (visible_of core)) b) refl refl
    where
      by : (g w : Bool) → is_going q.core.stop ≡ g → leb (takes memory (visible_of core)) b ≡ w
          → Next q core memory b (takes memory (visible_of core)) ⊎ Last q b
      by false w g h =
          let none = none_more b q g in
          inr (record { finished = rw none refl; used = rw none (omega (arith, none_spent_lem q.core s.due)) })
      by true true g h = inl (taken (only_going q.core.stop g) (leb-true (takes memory (visible_of core)) b h))
      by true false g h =
          let short = leb-false (takes memory (visible_of core)) b h in
          let m = (one_instruction q (only_going q.core.stop g) s.due).0 b (omega (arith, cost, short)) in
          inr (record { finished = m.finished; used = omega (arith, m.spent, m.used) })

  next : q.finished < (cycles_on b q).finished → Next q core memory b (takes memory (visible_of core))
  next more = by one_way
    where
      by : Next q core memory b (takes memory (visible_of core)) ⊎ Last q b → Next q core memory b (takes memory (visible_of core))
      by (inl n) = n
      by (inr l) = absurd (omega (arith, more, l.finished))

  last : (cycles_on b q).finished ≡ q.finished → Last q b
  last none = by one_way
    where
      by : Next q core memory b (takes memory (visible_of core)) ⊎ Last q b → Last q b
      by (inl n) =
          let c = takes memory (visible_of core) in
          let all = ap (λ (p : Progress). p.finished) n.rest in
          absurd (omega (arith, grows (b - c) (cycles_on c q), all, none, n.finished))
      by (inr l) = l

-- the cycles of so many steps
abbrev spent : ℕ → Core → List ℕ → ℕ
spent i core memory = cycles_in (rows_of i core memory)

spent_more : (i : ℕ) (core : Core) (memory : List ℕ)
    → spent (suc i) core memory ≡ cycles_of (step core memory).answer + spent i (step core memory).core (step core memory).memory
unfolding rows_of cycles_in
spent_more i core memory = refl

-- an instruction's cycles, and those of i steps after it
module _ (i : ℕ) (q : Progress) (core : Core) (memory : List ℕ) (b : ℕ) (n : Next q core memory b (takes memory (visible_of core))) where
  time : spent (suc i) core memory ≡ takes memory (visible_of core) + spent i (step core memory).core (step core memory).memory
  time =
      spent_more i core memory ∙ ap (λ (x : ℕ). x + spent i (step core memory).core (step core memory).memory) n.cycles

  there : cycles_on (spent (suc i) core memory) q
      ≡ cycles_on (spent i (step core memory).core (step core memory).memory) (cycles_on (takes memory (visible_of core)) q)
  there =
      ap (λ (x : ℕ). cycles_on x q) time
      ∙ cycles_add (takes memory (visible_of core)) (spent i (step core memory).core (step core memory).memory) q

-- a run, cut after the cycles of i steps
pub record Cut (i t b : ℕ) (q : Progress) : Type 0 where
  pub within : t ≤ b
  pub twice : 2 * i ≤ t
  pub finished : (cycles_on t q).finished ≡ q.finished + i
  pub due : due_one (cycles_on t q).core ≡ true

pub cut : (i : ℕ) (q : Progress) (core : Core) (memory : List ℕ) (b : ℕ) → Same q core memory b
    → q.finished + i ≤ (cycles_on b q).finished → Cut i (spent i core memory) b q
unfolding rows_of cycles_in
cut zero q core memory b s few =
    record {
      within = omega arith;
      twice = omega arith;
      finished = ap (λ (p : Progress). p.finished) (no_cycle q) ∙ sym (add-zero q.finished);
      due = ap (λ (p : Progress). due_one p.core) (no_cycle q) ∙ s.due;
    }
cut (suc i) q core memory b s few =
    let c = takes memory (visible_of core) in
    let n = next q core memory b s (omega (arith, few)) in
    let all = ap (λ (p : Progress). p.finished) n.rest in
    let stepped = step core memory in
    let ih = cut i (cycles_on c q) stepped.core stepped.memory (b - c) n.same (omega (arith, few, all, n.finished)) in
    let t = time i q core memory b n in
    let on = there i q core memory b n in
    record {
      within = omega (arith, ih.within, n.within, t);
      twice = omega (arith, ih.twice, n.some, t);
      finished = ap (λ (p : Progress). p.finished) on ∙ (omega (arith, ih.finished, n.finished));
      due = ap (λ (p : Progress). due_one p.core) on ∙ ih.due;
    }

-- all its cycles
pub add_up : (i : ℕ) (q : Progress) (core : Core) (memory : List ℕ) (b : ℕ) → Same q core memory b
    → (cycles_on b q).finished ≡ q.finished + i
    → q.used + spent i core memory + spent_of (cycles_on b q).core ≡ (cycles_on b q).used
unfolding rows_of cycles_in
add_up zero q core memory b s all =
    ap (λ (n : ℕ). n + spent_of (cycles_on b q).core) (add-zero q.used) ∙ (last q core memory b s (all ∙ add-zero q.finished)).used
add_up (suc i) q core memory b s all =
    let c = takes memory (visible_of core) in
    let n = next q core memory b s (omega (arith, all)) in
    let stepped = step core memory in
    let same = ap (λ (p : Progress). p.finished) n.rest in
    let ih = add_up i (cycles_on c q) stepped.core stepped.memory (b - c) n.same (omega (arith, same, all, n.finished)) in
    rw n.rest (omega (arith, ih, time i q core memory b n, n.used))

-- the row after the first i, as the run has it
abbrev pub row_after : Progress → Progress → List ℕ
row_after before after =
    before.core.pc
    ∷ word_at before.memory before.core.pc
    ∷ takes before.memory (visible_of before.core)
    ∷ flags_number after.core.flags
    ∷ []

pub row_of_lem : (i : ℕ) (q : Progress) (core : Core) (memory : List ℕ) (b : ℕ) → Same q core memory b
    → q.finished + i < (cycles_on b q).finished
    → rows_of (suc i) core memory
    ≡ rows_of i core memory ++ row_after (cycles_on (spent i core memory) q) (cycles_on (spent (suc i) core memory) q)
unfolding rows_of cycles_in
row_of_lem zero q core memory b s few =
    let c = takes memory (visible_of core) in
    let n = next q core memory b s (omega (arith, few)) in
    let on = there 0 q core memory b n ∙ no_cycle (cycles_on c q) in
    let cycles = cost q core memory b s ∙ sym n.cycles in
    sym
    ((λ j. row_after (no_cycle q j) (on j))
    ∙ (λ j. (s.visible j).pc
    ∷ word_at (s.words j) (s.visible j).pc
    ∷ cycles j
    ∷ flags_number (n.same.visible j).flags
    ∷ []))
row_of_lem (suc i) q core memory b s few =
    let c = takes memory (visible_of core) in
    let n = next q core memory b s (omega (arith, few)) in
    let stepped = step core memory in
    let all = ap (λ (p : Progress). p.finished) n.rest in
    let ih = row_of_lem i (cycles_on c q) stepped.core stepped.memory (b - c) n.same (omega (arith, few, all, n.finished)) in
    ap (λ (rows : List ℕ). row_of core memory stepped ++ rows) ih
    ∙ sym (λ j. rows_of (suc i) core memory ++ row_after (there i q core memory b n j) (there (suc i) q core memory b n j))
