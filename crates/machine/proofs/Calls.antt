-- Each call, on a core and on the machine that it stands to: the same answer, the same memory, and the relation again.
use mathlib.Core.Path.{◌≡◌, refl, ap, subst, ◌∙◌}
use mathlib.Core.Bool.{Bool, true, false, not}
use mathlib.Core.List.{List}
use Prim.Native.Nat.{ℕ, ◌+◌, ◌≤◌}
use native.Mathlib.Omega.{arith}
use native.Mathlib.Nat.{zero-add}
use borrow.Author.Tests.{eqb-true, eq-eqb}
use lib.Dec.{eqb}
use lib.ListN.{length}
use Rattle.effects.specs.declared.Stop.{Stop}
use Rattle.effects.specs.declared.Stop.TheVariants.{Going, Halted, Undefined}
use Rattle.r8_core.specs.Cores.{visible_of, fresh_core}
use Rattle.r8_core.specs.Spent.{due_one}
use Rattle.r8_core.specs.Instruction.{after, memory_after, takes, step_transition}
use Rattle.refusals.specs.Refusals.{wrong_length}
use Rattle.r8_core.specs.Numbers.{is_going, load_number, run_number, step_number, view_number}
use Rattle.r8_core.specs.Calls as core
use Rattle.r8_core.specs.Progress.{Progress, starting, cycles_on}
use Rattle.r8_core.specs.Calls.{Answer, ran, viewed, end_of}
use Rattle.r8_core.specs.declared.Core.{Core}
use Rattle.r8_core.proofs.Spent.{due_of_spent}
use Rattle.refusals.proofs.First.{none_applies}
use Rattle.r8_core.proofs.Cycles.{cycles_add, counted, cycles_counted}
use Rattle.machine.specs.Machine as machine
use Rattle.machine.specs.Machine.{Machine, cycles_of, looped, loop_of, used, spent_after, none_spent, stepped}
use Rattle.machine.specs.Theorem.{Call, reset, load, run, step, view, reply_to, on_machine}
use Rattle.machine.proofs.Runs.{Arrived, loop_at, arrives, spent_going, spent_stopped}
use Rattle.machine.proofs.Relation.{Related, at_rest, rest, seen, resumed, due_one_lem}

pub record Same (r : core.Reply) (s : Answer × Machine) : Type 0 where
  pub answer : r.answer ≡ s.0
  pub memory : r.memory ≡ s.1.memory
  pub related : Related r.core s.1

-- both refuse with the same number, or neither does
unless_same : (c : Core) (m : Machine) (n n' : ℕ) (r : core.Reply) (s : Answer × Machine) → n ≡ n'
    → Related c m → (n ≡ 0 → Same r s)
    → Same (core.unless n c m.memory r) (machine.unless n' m s)
unless_same c m n n' r s e related taken = by (eqb n 0) refl
  where
    by : (b : Bool) → eqb n 0 ≡ b
        → Same (core.unless n c m.memory r) (machine.unless n' m s)
    by true h = rw (← e, h) (taken (eqb-true n 0 h))
    by false h = rw (← e, h) (record { answer = refl; memory = refl; related = related })

-- where 7 does not, none is spent
none_spent_lem : (m : Machine) → not (none_spent m) ≡ false → m.spent ≡ 0
none_spent_lem m e = by (none_spent m) refl
  where
    by : (t : Bool) → none_spent m ≡ t → m.spent ≡ 0
    by true h = eqb-true m.spent 0 h
    by false h = let z : ◌≡◌ {A = Bool} true false = rw h at e in absurd (let n : ◌≡◌ {A = ℕ} 0 1 = cc in omega arith)

-- with none spent, core and machine show the same
pub visible_same : {c : Core} {m : Machine} → Related c m → m.spent ≡ 0 → visible_of c ≡ m.visible
visible_same r e = ap visible_of (at_rest r e) ∙ r.visible

-- what a run leaves of s+b, used and spent: `a` is what the clock, or the sum of the costs, has come to
settled : (stop : Stop) (a t s b clock q : ℕ) → a + t ≡ clock + b → t ≤ s + b → s + q ≡ used stop (s + b) t
    → a + spent_after stop t ≡ clock + used stop b t
settled Going a t s b clock q e l u = e
settled Halted a t s b clock q e l u = omega arith
settled Undefined a t s b clock q e l u = omega arith

used_here : (stop : Stop) (t s b q : ℕ) → t ≤ s + b → s + q ≡ used stop (s + b) t → q ≡ used stop b t
used_here Going t s b q l u = omega arith
used_here Halted t s b q l u = omega arith
used_here Undefined t s b q l u = omega arith

module _ (c : Core) (m : Machine) (r : Related c m) where
  reset_same : Same (core.reset c m.memory) (machine.reset m)
  unfolding core.reset machine.reset cycles_of
  reset_same = record { answer = refl; memory = refl; related = rest fresh_core _ refl refl refl refl refl }

  load_same : (text : List ℕ) → Same (core.load text c m.memory) (machine.load text m)
  unfolding core.load machine.load load_number
  load_same text =
      unless_same c m _ _ _ _ (ap (load_number (length m.memory)) (due_one_lem (seen r))) r
      λ e. let past = (none_applies 0 (wrong_length (length m.memory)) _ e).1 in
      let none = none_spent_lem m (rw (due_one_lem (seen r)) at (none_applies 6 (not (due_one c)) _ past).0) in
      let total = r.total in
      record {
        answer = refl;
        memory = refl;
        related = rest c _ none (due_one_lem (seen r) ∙ eq-eqb m.spent 0 none) (visible_same r none) (seen r).clock (omega arith);
      }

  view_same : Same (core.view c m.memory) (machine.view m)
  unfolding core.view machine.view view_number
  view_same =
      unless_same c m _ _ _ _ (ap view_number (due_one_lem (seen r))) r
      λ e. let none = none_spent_lem m (rw (due_one_lem (seen r)) at (none_applies 6 (not (due_one c)) _ e).0) in
      let visible = visible_same r none in
      let due = due_of_spent c (seen r).due ∙ ap (λ (n : ℕ). n + 1) (seen r).spent in
      let clock = (seen r).clock in
      record { answer = λ j. viewed (visible j) (due j) (clock j); memory = refl; related = r }

  -- one instruction by both
  step_taken : m.spent ≡ 0
      → Same (core.stepped_reply (takes m.memory (visible_of c)) (step_transition m.memory c) m.memory) (stepped m)
  unfolding step_transition memory_after cycles_of takes
  step_taken none =
      let visible = visible_same r none in
      let clock = (seen r).clock in
      let total = r.total in
      let cost = ap (takes m.memory) visible in
      record {
        answer = λ j. ran (cost j) 1 (end_of (after m.memory (visible j)).stop true);
        memory = ap (memory_after m.memory) visible;
        related = rest _ _ refl refl (ap (after m.memory) visible) (λ j. clock j + cost j) (omega arith);
      }

  step_same : Same (core.step c m.memory) (machine.step m)
  unfolding core.step machine.step step_number run_number
  step_same =
      let due = due_one_lem (seen r) in
      let stop = (seen r).stop in
      let clock = (seen r).clock in
      unless_same c m _ _ _ _ (λ j. step_number (length m.memory) (stop j) (due j) (clock j)) r
      λ e. let past = (none_applies 0 (wrong_length (length m.memory)) _ e).1 in
      let past' = (none_applies 7 (not (is_going c.stop)) _ past).1 in
      step_taken (none_spent_lem m (rw due at (none_applies 6 (not (due_one c)) _ past').0))

  -- the cycles of a run and the loop of the machine
  arrived : (b : ℕ)
      → Arrived (starting r.start m.memory) (counted m.spent 0 (cycles_on b (starting c m.memory)))
      (loop_at (starting r.start m.memory) (m.spent + b) 0 m.log) (loop_of b m)
  arrived b =
      let p = starting r.start m.memory in
      let x = loop_at p (m.spent + b) 0 m.log in
      let visible = r.visible in
      let q : cycles_on (m.spent + b) p ≡ counted m.spent 0 (cycles_on b (starting c m.memory)) =
      cycles_add m.spent b p ∙ ap (cycles_on b) (resumed r) ∙ cycles_counted b m.spent 0 (starting c m.memory) in
      let y : looped (m.spent + b) x ≡ loop_of b m =
      λ j. looped (m.spent + b) (record { visible = visible j; memory = m.memory; t = m.spent + b; finished = 0; log = m.log }) in
      subst (Arrived p (counted m.spent 0 (cycles_on b (starting c m.memory))) x) y
      (subst (λ (q : Progress). Arrived p q x (looped (m.spent + b) x)) q
      (arrives (m.spent + b) (m.spent + b) 0 m.log p r.due (omega arith)))

  run_related : (b : ℕ)
      → Related (cycles_on b (starting c m.memory)).core (machine.ran_reply b m.clock (loop_of b m)).1
  unfolding cycles_of
  run_related b =
      let a = arrived b in
      let y = loop_of b m in
      let stop = y.visible.stop in
      let q = cycles_on b (starting c m.memory) in
      let counted-used = a.used ∙ zero-add (used stop (m.spent + b) y.t) in
      let clock : a.start.clock.0 + y.t ≡ m.clock + b = omega (arith, a.clock, r.clock) in
      let total : cycles_of y.log + y.t ≡ m.clock + b = omega (arith, a.total, r.total) in
      record {
        start = a.start;
        due = a.due;
        visible = a.visible;
        core = a.core;
        within = λ g. rw (spent_going stop y.t g) (a.within g);
        still = λ g. spent_stopped stop y.t g;
        clock = settled stop _ y.t m.spent b m.clock q.used clock a.less counted-used;
        total = settled stop _ y.t m.spent b m.clock q.used total a.less counted-used;
      }

  run_taken : (b : ℕ)
      → Same (core.ran_reply (cycles_on b (starting c m.memory))) (machine.ran_reply b m.clock (loop_of b m))
  run_taken b =
      let a = arrived b in
      let y = loop_of b m in
      let s = seen (run_related b) in
      let q = cycles_on b (starting c m.memory) in
      let stop = s.stop in
      let due = due_one_lem s in
      let cycles = used_here y.visible.stop y.t m.spent b q.used a.less (a.used ∙ zero-add _) in
      let finished : q.finished ≡ y.finished = omega (arith, a.finished) in
      record {
        answer = λ j. ran (cycles j) (finished j) (end_of (stop j) (due j));
        memory = a.memory;
        related = run_related b;
      }

  run_same : (b : ℕ) → Same (core.run b c m.memory) (machine.run b m)
  unfolding core.run machine.run
  run_same b =
      let stop = (seen r).stop in
      let due = (seen r).due in
      let clock = (seen r).clock in
      unless_same c m _ _ _ _ (λ j. run_number (length m.memory) (stop j) (due j) (clock j) b) r (λ _. run_taken b)

-- every call
pub call_same : (call : Call) (c : Core) (m : Machine) → Related c m → Same (reply_to call c m.memory) (on_machine call m)
call_same reset c m r = reset_same c m r
call_same (load text) c m r = load_same c m r text
call_same (run b) c m r = run_same c m r b
call_same step c m r = step_same c m r
call_same view c m r = view_same c m r
