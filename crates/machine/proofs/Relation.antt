-- How a core stands to the machine between calls: it is as many cycles into the machine's next instruction as the machine has spent.
use mathlib.Core.Path.{◌≡◌, refl, sym, ap, ◌∙◌}
use mathlib.Core.Bool.{Bool, true, false, cond}
use Prim.Native.Nat.{ℕ, ◌+◌, ◌<◌}
use native.Mathlib.Omega.{arith}
use lib.Dec.{eqb}
use Rattle.r8_core.specs.Cores.{Visible, visible_of}
use Rattle.r8_core.specs.Spent.{spent_of, due_in_range, due_one}
use Rattle.r8_core.specs.Instruction.{takes}
use Rattle.r8_core.specs.Numbers.{is_going}
use Rattle.r8_core.specs.Progress.{Progress, starting, cycles_on}
use Rattle.r8_core.specs.Theorems.{Midway}
use Rattle.r8_core.specs.declared.Core.{Core}
use Rattle.r8_core.proofs.Spent.{none_spent_lem, range_when_one}
use Rattle.r8_core.proofs.Cycles.{only_going, no_cycle, counted, cost_range}
use Rattle.r8_core.proofs.OneInstruction.{one_instruction}
use Rattle.machine.specs.Machine.{Machine, cycles_of, none_spent}

pub record Related (c : Core) (m : Machine) : Type 0 where
  -- the core at the start of that instruction
  pub start : Core
  pub due : due_one start ≡ true
  pub visible : visible_of start ≡ m.visible
  pub core : c ≡ (cycles_on m.spent (starting start m.memory)).core
  pub within : is_going m.visible.stop ≡ true → m.spent < takes m.memory m.visible
  pub still : is_going m.visible.stop ≡ false → m.spent ≡ 0
  pub clock : start.clock.0 + m.spent ≡ m.clock
  pub total : cycles_of m.log + m.spent ≡ m.clock

-- what is to be seen of it
pub record Seen (c : Core) (m : Machine) : Type 0 where
  pub due : due_in_range c ≡ true
  pub spent : spent_of c ≡ m.spent
  pub stop : c.stop ≡ m.visible.stop
  pub clock : c.clock.0 ≡ m.clock
  pub few : m.spent < 4

-- with none spent, the core is at the start
pub at_rest : {c : Core} {m : Machine} (r : Related c m) → m.spent ≡ 0 → c ≡ r.start
at_rest {c} {m} r e =
    r.core ∙ ap (λ (n : ℕ). (cycles_on n (starting r.start m.memory)).core) e
    ∙ ap (λ (p : Progress). p.core) (no_cycle (starting r.start m.memory))

pub rest : (c : Core) (m : Machine) → m.spent ≡ 0 → due_one c ≡ true → visible_of c ≡ m.visible
    → c.clock.0 ≡ m.clock → cycles_of m.log ≡ m.clock → Related c m
rest c m s d v t e =
    record {
      start = c;
      due = d;
      visible = v;
      core =
          sym
          (ap (λ (n : ℕ). (cycles_on n (starting c m.memory)).core) s
          ∙ ap (λ (p : Progress). p.core) (no_cycle (starting c m.memory)));
      within = λ g. let h = (cost_range m.memory m.visible).0 in omega arith;
      still = λ _. s;
      clock = omega arith;
      total = omega arith;
    }

module _ {c : Core} {m : Machine} (r : Related c m) where
  -- in the middle of the instruction, if the machine goes on
  midway : is_going m.visible.stop ≡ true
      → Midway m.spent (starting r.start m.memory) (cycles_on m.spent (starting r.start m.memory))
  midway g =
      (one_instruction (starting r.start m.memory) (ap (λ (v : Visible). v.stop) r.visible ∙ only_going m.visible.stop g) r.due).0 m.spent
      (rw r.visible (r.within g))

  seen_going : is_going m.visible.stop ≡ true → Seen c m
  seen_going g =
      let mid = midway g in
      let h = r.within g in
      let few = (cost_range m.memory m.visible).1 in
      record {
        due = ap due_in_range r.core ∙ mid.due;
        spent = ap spent_of r.core ∙ mid.spent;
        stop = ap (λ (c : Core). c.stop) r.core ∙ mid.going ∙ sym (only_going m.visible.stop g);
        clock = ap (λ (c : Core). c.clock.0) r.core ∙ mid.clock ∙ r.clock;
        few = omega arith;
      }

  seen_stopped : is_going m.visible.stop ≡ false → Seen c m
  seen_stopped e =
      let none = r.still e in
      let same = at_rest r none in
      record {
        due = ap due_in_range same ∙ range_when_one r.start r.due;
        spent = ap spent_of same ∙ none_spent_lem r.start r.due ∙ sym none;
        stop = ap (λ (c : Core). c.stop) same ∙ ap (λ (v : Visible). v.stop) r.visible;
        clock = ap (λ (c : Core). c.clock.0) same ∙ (omega (arith, r.clock));
        few = omega arith;
      }

  pub seen : Seen c m
  seen = by (is_going m.visible.stop) refl
    where
      by : (g : Bool) → is_going m.visible.stop ≡ g → Seen c m
      by true e = seen_going e
      by false e = seen_stopped e

  -- a run goes on from there as from the start of the instruction, with the cycles spent counted before
  pub resumed : cycles_on m.spent (starting r.start m.memory) ≡ counted m.spent 0 (starting c m.memory)
  resumed = by (is_going m.visible.stop) refl
    where
      by : (g : Bool) → is_going m.visible.stop ≡ g
          → cycles_on m.spent (starting r.start m.memory) ≡ counted m.spent 0 (starting c m.memory)
      by true e =
          let q = cycles_on m.spent (starting r.start m.memory) in
          let mid = midway e in
          let core = sym r.core in
          let memory = mid.memory in
          let used : q.used ≡ m.spent + 0 = omega (arith, mid.used) in
          let finished = mid.finished in
          λ j. record { core = core j; memory = memory j; used = used j; finished = finished j }
      by false e =
          let none = r.still e in
          let core = sym (at_rest r none) in
          let used : 0 ≡ m.spent + 0 = omega arith in
          ap (λ (n : ℕ). cycles_on n (starting r.start m.memory)) none
          ∙ no_cycle (starting r.start m.memory)
          ∙ (λ j. record { core = core j; memory = m.memory; used = used j; finished = 0 })

-- what the numbers and the letter ask for
pub due_one_lem : {c : Core} {m : Machine} → Seen c m → due_one c ≡ none_spent m
due_one_lem s = let due = s.due in let spent = s.spent in λ j. cond (due j) (eqb (spent j) 0) false
