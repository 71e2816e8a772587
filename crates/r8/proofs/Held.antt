-- No cycle and no instruction changes how many registers a core has, and a byte holds the cycle that they leave due. Assumes nothing.
use mathlib.Core.Path.{◌≡◌, refl, ◌∙◌}
use mathlib.Core.Bool.{Bool, true, false, cond}
use mathlib.Core.List.{List}
use Prim.Native.Nat.{ℕ, zero, suc}
use native.Mathlib.Omega.{arith}
use lib.Dec.{eqb}
use lib.ListN.{length, length-set}
use borrow.Author.Tests.{eqb-true}
use Rattle.isa.specs.declared.Kind.{Kind}
use Rattle.table.specs.Table.{kind_of}
use Rattle.effects.specs.Cycles.{stop_of}
use Rattle.effects.specs.declared.Stop.{Stop}
use Rattle.effects.specs.declared.Stop.TheVariants.{Going, Halted, Undefined}
use Rattle.r8_core.specs.Spent.{due_one, due_in_range}
use Rattle.r8_core.specs.Datapath.{second, later_cycle, due_cycle}
use Rattle.r8_core.specs.Instruction.{after, step_transition}
use Rattle.r8_core.specs.Numbers.{is_going, run_number, step_number}
use Rattle.r8_core.specs.Progress.{Progress, starting, cycle_on, cycles_on}
use Rattle.r8_core.specs.Calls.{Reply, run, step}
use Rattle.r8_core.specs.declared.Core.{Core}
use Rattle.r8_core.specs.declared.Transition.{Transition}
use Rattle.r8_core.proofs.Cycles.{no_cycle, one_more, none_more}
use Rattle.r8_core.proofs.Spent.{due_when}
use Rattle.r8_core.proofs.Refusals.{ready}
use Rattle.r8_core.proofs.Again.{due_stays}
use Rattle.r8.specs.Theorems.{Held}

pub either : {A : Type 0} (P : A → Type 0) (b : Bool) {x y : A} → (b ≡ true → P x) → P y → P (cond b x y)
either P true p q = p refl
either P false p q = q

second_bank : (s : Stop) (kind : Kind) (core : Core) → length (second s kind core).regs ≡ length core.regs
second_bank Going kind core = refl
second_bank Halted kind core = refl
second_bank Undefined kind core = refl

cycle_bank : (memory : List ℕ) (core : Core) → length (due_cycle memory core).core.regs ≡ length core.regs
unfolding due_cycle later_cycle
cycle_bank memory core =
    let kind = kind_of core.hidden.ir in
    let same : Transition → Type 0 = λ t. length t.core.regs ≡ length core.regs in
    either same (eqb core.due 1) (λ _. refl)
    (either same (eqb core.due 2) (λ _. second_bank (stop_of kind) kind core)
    (either same (eqb core.due 3) (λ _. refl) (either same (eqb core.due 4) (λ _. length-set core.regs _ _) refl)))

cycles_bank : (n : ℕ) (p : Progress) → length (cycles_on n p).core.regs ≡ length p.core.regs
unfolding cycle_on
cycles_bank zero p = rw (no_cycle p) refl
cycles_bank (suc n) p = by (is_going p.core.stop) refl (cycles_bank n (cycle_on p))
  where
    by : (g : Bool) → is_going p.core.stop ≡ g → length (cycles_on n (cycle_on p)).core.regs ≡ length (cycle_on p).core.regs
        → length (cycles_on (suc n) p).core.regs ≡ length p.core.regs
    by true g ih = rw (one_more n p g) (ih ∙ cycle_bank p.memory p.core)
    by false g ih = rw (none_more (suc n) p g) refl

HeldReply : Reply → Type 0
HeldReply reply = Held reply.core

pub run_held : (core : Core) (memory : List ℕ) (b : ℕ) → Held core → Held (run b core memory).core
unfolding run HeldReply
run_held core memory b h =
    either HeldReply (eqb (run_number (length memory) core.stop (due_in_range core) core.clock.0 b) 0)
    (λ e. let due = due_stays b (starting core memory) (ready _ _ _ _ _ (eqb-true _ _ e)).due in
    (cycles_bank b (starting core memory) ∙ h.0, omega (arith, (due_when (cycles_on b (starting core memory)).core due).1)))
    h

pub step_held : (core : Core) (memory : List ℕ) → Held core → Held (step core memory).core
unfolding step HeldReply step_transition after
step_held core memory h =
    either HeldReply (eqb (step_number (length memory) core.stop (due_one core) core.clock.0) 0)
    (λ _. (length-set core.regs _ _ ∙ h.0, omega arith))
    h
