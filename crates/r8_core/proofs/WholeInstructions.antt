-- Laws of whole instructions: what code makes of a bank and a state is the core after the instruction, and what run does at a turn are
-- cycles.
use mathlib.Core.Path.{◌≡◌, refl, sym, ap, subst, ◌∙◌}
use mathlib.Core.Bool.{Bool, true, false, cond}
use mathlib.Core.List.{List}
use Prim.Native.Nat.{ℕ, zero, suc, ◌+◌, ◌-◌, ◌≤◌, ◌<◌}
use native.Mathlib.Omega.{arith}
use native.Mathlib.Nat.{add-zero, zero-add}
use borrow.Author.Tests.{ltb-true, ltb-false, leb-true, le-leb}
use lib.Dec.{ltb, leb}
use lib.ListN.{length, length-set}
use Rattle.isa.specs.Fields.{field_t, field_a, field_b}
use Rattle.table.specs.Table.{kind_of}
use Rattle.effects.specs.Hidden.{no_hidden, with_ir, with_ra_rb}
use Rattle.effects.specs.Cycles.{calculated, leaving}
use Rattle.effects.proofs.Theorems.{second_of}
use Rattle.effects.specs.declared.Stop.{Stop}
use Rattle.r8_core.specs.Cores.{with_hidden, with_due, with_clock, visible_of, register}
use Rattle.r8_core.specs.Spent.{due_in_range, due_one}
use Rattle.r8_core.specs.Instruction.{word_due, after, memory_after, takes, core_after, step_transition}
use Rattle.r8_core.specs.Datapath.{due_cycle}
use Rattle.r8_core.specs.Numbers.{is_going, longest}
use Rattle.r8_core.specs.Progress.{Progress, starting, cycle_on, cycles_on, instruction_on}
use Rattle.r8_core.specs.Calls.{ran, end_of, stepped_reply}
use Rattle.r8_core.specs.WholeInstructions.{seen, joined, effect_before_of, working_after, done_on, working_on, bank_on, has_room, instructions_on, instructions_or_cycle}
use Rattle.r8_core.specs.declared.Core.{Core}
use Rattle.r8_core.specs.declared.Working.{Working}
use Rattle.r8_core.proofs.Spent.{both, due_when_one}
use Rattle.r8_core.proofs.Cycles.{only_going, one_more, none_more, no_cycle, cycles_add, counted, cycles_counted, cost_range}
use Rattle.r8_core.proofs.OneInstruction.{one_instruction}
use Rattle.r8_core.proofs.Endings.{clock_moves}
use Rattle.r8_core.proofs.Replies.{bit_small}
use Rattle.r8_core.proofs.Again.{due_stays, length_stays}

-- the instruction engine on the two parts of a core, with all else as it is in a core with cycle 1 due
core_after_lem : (core : Core) → due_one core ≡ true → (M regs : List ℕ) (s : Working) (used : ℕ)
    → joined core (working_on M regs s) (bank_on M regs s) (used + takes M (seen s regs)) ≡ core_after M (joined core s regs used)
unfolding core_after after
core_after_lem core one M regs s used =
    let w = word_due M (seen s regs) in
    let done = done_on M regs s in
    let due = due_when_one core one in
    let second = second_of (kind_of w) (field_t w) (field_b w) (register regs) in
    let x = effect_before_of s (register regs (field_t w)) in
    let ralu = ap (λ (RB : ℕ). (calculated (kind_of w) (with_ra_rb (register regs (field_a w)) RB (with_ir w s.hidden)) x).value) second in
    let clock : core.clock.0 + (used + takes M (seen s regs)) ≡ core.clock.0 + used + takes M (seen s regs) = omega arith in
    λ j. with_clock (clock j)
    (with_due (due j)
    (joined core (working_after (kind_of w) w regs (leaving (ralu j) done.effect) (takes M (seen s regs)) s) (bank_on M regs s) used))

-- it leaves the lengths of bank and memory
pub bank_length : (M regs : List ℕ) (s : Working) → length (bank_on M regs s) ≡ length regs
bank_length M regs s = length-set regs _ _

-- what lets a whole instruction be executed
pub goes_on_when : (s : Stop) (left : ℕ) → has_room s left ≡ true → (is_going s ≡ true) × (longest ≤ left)
goes_on_when s left e =
    let tests = both (is_going s) (leb longest left) e in
    (tests.0, leb-true longest left tests.1)

-- the loop's test of it, which asks too whether one more is to be
pub one_asked : (s : Working) (more : ℕ) → cond (has_room s.stop s.left.0) (ltb 0 more) false ≡ true
    → (has_room s.stop s.left.0 ≡ true) × (longest ≤ s.left.0) × (0 < more)
one_asked s more e =
    let tests = both (has_room s.stop s.left.0) (ltb 0 more) e in
    (tests.0, (goes_on_when s.stop s.left.0 tests.0).1, ltb-true 0 more tests.1)

-- a run of a budget b under way
abbrev pub under : Core → Working → List ℕ → List ℕ → ℕ → ℕ → Progress
under core s regs M b count =
    record { core = joined core s regs (b - s.left.0); memory = M; used = b - s.left.0; finished = count }

-- the engine's state, bank and memory are one instruction on
pub past_one : (core : Core) → due_one core ≡ true → (s s' : Working) (regs regs' M M' : List ℕ) (b count count' : ℕ)
    → s' ≡ working_on M regs s → regs' ≡ bank_on M regs s → M' ≡ memory_after M (seen s regs)
    → takes M (seen s regs) ≤ s.left.0 → s.left.0 ≤ b → count' ≡ count + 1
    → under core s' regs' M' b count' ≡ instruction_on (under core s regs M b count)
unfolding instruction_on
past_one core one s s' regs regs' M M' b count count' e r m fits most f =
    let used : b - s'.left.0 ≡ (b - s.left.0) + takes M (seen s regs) = omega (arith, ap (λ (s : Working). s.left.0) e) in
    let after = (λ j. joined core (e j) (r j) (used j)) ∙ core_after_lem core one M regs s (b - s.left.0) in
    λ j. record { core = after j; memory = m j; used = used j; finished = f j }

-- one instruction more, and none
pub next_one : (n b : ℕ) (p q : Progress) → has_room p.core.stop (b - p.used) ≡ true → q ≡ instruction_on p
    → instructions_on (suc n) b p ≡ instructions_on n b q
unfolding instructions_on
next_one n b p q g e =
    ap (λ (goes : Bool). cond goes (instructions_on n b (instruction_on p)) p) g ∙ ap (instructions_on n b) (sym e)

pub no_next : (n b : ℕ) (p : Progress) → has_room p.core.stop (b - p.used) ≡ false → instructions_on n b p ≡ p
unfolding instructions_on
no_next zero b p g = refl
no_next (suc n) b p g = ap (λ (goes : Bool). cond goes (instructions_on n b (instruction_on p)) p) g

pub none_asked : (n b : ℕ) (p : Progress) → n ≤ 0 → instructions_on n b p ≡ p
unfolding instructions_on
none_asked n b p e = let none : n ≡ 0 = omega arith in ap (λ (n : ℕ). instructions_on n b p) none

-- the test that is not passed
pub not_asked : (n b : ℕ) (p : Progress) → cond (has_room p.core.stop (b - p.used)) (ltb 0 n) false ≡ false → instructions_on n b p ≡ p
not_asked n b p = by (has_room p.core.stop (b - p.used)) refl
  where
    by : (room : Bool) → has_room p.core.stop (b - p.used) ≡ room → cond room (ltb 0 n) false ≡ false → instructions_on n b p ≡ p
    by true e none = none_asked n b p (ltb-false 0 n none)
    by false e none = no_next n b p e

-- q is k cycles on from p, within a budget
record Along (b : ℕ) (p q : Progress) : Type 0 where
  pub k : ℕ
  pub cycles : q ≡ cycles_on k p
  pub used : q.used ≡ p.used + k
  pub within : q.used ≤ b

-- whole instructions are as many cycles as they cost: `OneInstruction`, again and again
instructions_along : (n b : ℕ) (p : Progress) → due_one p.core ≡ true → p.used ≤ b → Along b p (instructions_on n b p)
unfolding instructions_on instruction_on core_after
instructions_along zero b p d l = record { k = 0; cycles = sym (no_cycle p); used = omega arith; within = l }
instructions_along (suc n) b p d l = by (has_room p.core.stop (b - p.used)) refl (instructions_along n b (instruction_on p))
  where
    by : (goes : Bool) → has_room p.core.stop (b - p.used) ≡ goes
        → (due_one (instruction_on p).core ≡ true → (instruction_on p).used ≤ b → Along b (instruction_on p) (instructions_on n b (instruction_on p)))
        → Along b p (cond goes (instructions_on n b (instruction_on p)) p)
    by false g ih = record { k = 0; cycles = sym (no_cycle p); used = omega arith; within = l }
    by true g ih =
        let when = goes_on_when p.core.stop (b - p.used) g in
        let cost = cost_range p.memory (visible_of p.core) in
        let rest = ih refl (omega (arith, when.1, cost.1)) in
        let one = (one_instruction p (only_going p.core.stop when.0) d).1 in
        record {
          k = takes p.memory (visible_of p.core) + rest.k;
          cycles = rest.cycles ∙ sym (cycles_add _ rest.k p ∙ ap (cycles_on rest.k) one);
          used = omega (arith, rest.used);
          within = rest.within;
        }

first_used : (n b : ℕ) (p : Progress) → due_one p.core ≡ true → 1 ≤ n → has_room p.core.stop (b - p.used) ≡ true
    → 1 ≤ (instructions_on n b p).used
unfolding instruction_on core_after
first_used zero b p d l g = absurd (omega arith)
first_used (suc n) b p d l g =
    let when = goes_on_when p.core.stop (b - p.used) g in
    let range = cost_range p.memory (visible_of p.core) in
    let rest = instructions_along n b (instruction_on p) refl (omega (arith, when.1, range.1)) in
    rw (next_one n b p (instruction_on p) g refl) (omega (arith, rest.used, range.0))

-- a turn of run's loop: some cycles, at most those that are left
record Turned (b : ℕ) (p q : Progress) : Type 0 where
  pub along : Along b p q
  pub some : 1 ≤ q.used

module _ (b : ℕ) (core : Core) (M : List ℕ) (going : is_going core.stop ≡ true) (left : 1 ≤ b) where
  one_cycle : Turned b (starting core M) (cycle_on (starting core M))
  unfolding cycle_on
  one_cycle =
      record {
        along =
            record {
              k = 1;
              cycles = sym (one_more 0 (starting core M) going ∙ no_cycle (cycle_on (starting core M)));
              used = refl;
              within = left;
            };
        some = omega arith;
      }

  whole : due_one core ≡ true → longest ≤ b → Turned b (starting core M) (instructions_on b b (starting core M))
  whole d four =
      let fits = le-leb longest (b - 0) (omega arith) in
      record {
        along = instructions_along b b (starting core M) d (omega arith);
        some = first_used b b (starting core M) d left (λ j. cond (going j) (fits j) false);
      }

  turned : Turned b (starting core M) (instructions_or_cycle b (starting core M))
  turned = by_room (leb longest b) refl
    where
      by_due : (one : Bool) → due_one core ≡ one → leb longest b ≡ true
          → Turned b (starting core M) (cond one (instructions_on b b (starting core M)) (cycle_on (starting core M)))
      by_due false d f = one_cycle
      by_due true d f = whole d (leb-true longest b f)

      by_room : (fits : Bool) → leb longest b ≡ fits
          → Turned b (starting core M)
          (cond fits (cond (due_one core) (instructions_on b b (starting core M)) (cycle_on (starting core M))) (cycle_on (starting core M)))
      by_room false f = one_cycle
      by_room true f = by_due (due_one core) refl f

-- a turn of the loop leaves what the cycles left give, counts and all
cycles_left : (b : ℕ) (p q : Progress) → Turned (b - p.used) (starting p.core p.memory) q
    → cycles_on (b - p.used) p ≡ cycles_on (b - (p.used + q.used)) (counted p.used p.finished q)
cycles_left b p q t =
    let a = t.along in
    let s = starting p.core p.memory in
    let used = sym (add-zero p.used) in
    let finished = sym (add-zero p.finished) in
    let from : p ≡ counted p.used p.finished s =
    λ j. record { core = p.core; memory = p.memory; used = used j; finished = finished j } in
    let some : b - p.used ≡ a.k + (b - (p.used + q.used)) = omega (arith, a.used, a.within, t.some) in
    ap (λ (n : ℕ). cycles_on n p) some
    ∙ cycles_add a.k (b - (p.used + q.used)) p
    ∙ ap (cycles_on (b - (p.used + q.used)))
    (ap (cycles_on a.k) from ∙ cycles_counted a.k p.used p.finished s ∙ ap (counted p.used p.finished) (sym a.cycles))

-- no more instructions are finished than cycles are used
few_finished : (n : ℕ) (p : Progress) → p.finished ≤ p.used → (cycles_on n p).finished ≤ (cycles_on n p).used
unfolding cycle_on
few_finished zero p l = rw (no_cycle p) l
few_finished (suc n) p l =
    by (is_going p.core.stop) refl
    (few_finished n (cycle_on p) (omega (arith, l, bit_small (due_cycle p.memory p.core).finished)))
  where
    by : (g : Bool) → is_going p.core.stop ≡ g → (cycles_on n (cycle_on p)).finished ≤ (cycles_on n (cycle_on p)).used
        → (cycles_on (suc n) p).finished ≤ (cycles_on (suc n) p).used
    by true g ih = rw (one_more n p g) ih
    by false g ih = rw (none_more (suc n) p g) l

-- what run's loop needs of a turn from p to q, with the counts of the turn alone in q
pub record Onward (b : ℕ) (p q : Progress) : Type 0 where
  pub below : p.used < b
  pub left : cycles_on (b - p.used) p ≡ cycles_on (b - (p.used + q.used)) (counted p.used p.finished q)
  pub some : 1 ≤ q.used
  pub most : q.used ≤ b - p.used
  pub few : q.finished ≤ q.used
  pub clock : q.core.clock.0 ≡ p.core.clock.0 + q.used
  pub due : due_in_range q.core ≡ true
  pub size : length q.memory ≡ length p.memory

pub onward : (b : ℕ) (p q : Progress) → is_going p.core.stop ≡ true → p.used < b → due_in_range p.core ≡ true
    → q ≡ instructions_or_cycle (b - p.used) (starting p.core p.memory) → Onward b p q
onward b p q going below due e =
    let s = starting p.core p.memory in
    let t : Turned (b - p.used) s q =
    subst (Turned (b - p.used) s) (sym e) (turned (b - p.used) p.core p.memory going (omega arith)) in
    let k = t.along.k in
    let c = t.along.cycles in
    let few : q.finished ≤ q.used = subst (λ (q : Progress). q.finished ≤ q.used) (sym c) (few_finished k s (omega arith)) in
    let clock : q.core.clock.0 + 0 ≡ p.core.clock.0 + q.used =
    subst (λ (q : Progress). q.core.clock.0 + 0 ≡ p.core.clock.0 + q.used) (sym c) (clock_moves k s due) in
    record {
      below = below;
      left = cycles_left b p q t;
      some = t.some;
      most = t.along.within;
      few = few;
      clock = omega (arith, clock);
      due = ap (λ (q : Progress). due_in_range q.core) c ∙ due_stays k s due;
      size = ap (λ (q : Progress). length q.memory) c ∙ length_stays k s;
    }

-- one instruction, where there is room for one
pub just_one : (core : Core) (M : List ℕ) → is_going core.stop ≡ true
    → instructions_on 1 longest (starting core M) ≡ instruction_on (starting core M)
unfolding instructions_on
just_one core M going = next_one 0 longest (starting core M) (instruction_on (starting core M)) (λ j. cond (going j) true false) refl

-- and with the hidden registers zero it is a step's
pub as_step : (core : Core) (M : List ℕ)
    → let p = instruction_on (starting core M) in
    let next = with_hidden no_hidden p.core in
    record { answer = ran p.used p.finished (end_of next.stop (due_one next)); core = next; memory = p.memory }
    ≡ stepped_reply (takes M (visible_of core)) (step_transition M core) M
unfolding instruction_on core_after memory_after step_transition
as_step core M =
    let used = zero-add (takes M (visible_of core)) in
    let next = (step_transition M core).core in
    λ j. record { answer = ran (used j) 1 (end_of next.stop (due_one next)); core = next; memory = memory_after M (visible_of core) }
