-- The theorem `ForeignCore` of specs/Theorems.antt: by the class of the instruction in IR, from `PastTheLast` of `effects`.
use Rattle.std.specs.Prelude.{None}
use mathlib.Core.Path.{◌≡◌, refl, ap, ◌∙◌}
use mathlib.Core.Bool.{Bool, true, false}
use mathlib.Core.List.{List}
use Prim.Native.Nat.{ℕ, ◌≤◌, ◌<◌}
use native.Mathlib.Omega.{arith}
use borrow.Author.Tests.{le-leb, eqb-true, eqb-false}
use lib.Dec.{eqb}
use lib.Seq.{set-get_or}
use Rattle.isa.specs.Cost.{count_of, class_of, cost_of}
use Rattle.isa.specs.Fields.{field_t}
use Rattle.isa.specs.declared.Class.{Class}
use Rattle.isa.specs.declared.Class.TheVariants.{Stop, Short, Full}
use Rattle.table.specs.Table.{kind_of}
use Rattle.effects.specs.Cycles.{calculated, written_back}
use Rattle.effects.specs.Theorems.{Idle}
use Rattle.effects.proofs.Theorems.{past_the_last}
use Rattle.effects.specs.declared.Effect.{Effect}
use Rattle.alu.specs.Flags.{silent}
use Rattle.alu.specs.declared.Outcome.{Outcome}
use Rattle.r8_core.specs.Cores.{with_regs, visible_of, effect_before}
use Rattle.r8_core.specs.Datapath.{with_result, with_effect, transition, is_last, due_cycle}
use Rattle.r8_core.specs.Theorems.{ForeignCore}
use Rattle.r8_core.specs.declared.Core.{Core}
use Rattle.r8_core.proofs.Cycles.{later, third_cycle, fourth_cycle}

-- nothing written back leaves the core
same_core : (core : Core) → with_effect (effect_before core.hidden.ir (visible_of core)) core ≡ core
same_core core = let regs = set-get_or core.regs (field_t core.hidden.ir) 0 in λ j. with_regs (regs j) core

module _ (M : List ℕ) (core : Core) (less : cost_of (kind_of core.hidden.ir) core.flags < core.due) where
  last : is_last (kind_of core.hidden.ir) core ≡ true
  last = le-leb (cost_of (kind_of core.hidden.ir) core.flags) core.due (omega arith)

  in_third : core.due ≡ 3
      → calculated (kind_of core.hidden.ir) core.hidden (effect_before core.hidden.ir (visible_of core))
      ≡ silent core.hidden.ralu core.flags
      → due_cycle M core ≡ transition true core None
  in_third d e =
      let finished = last in
      let none = ap (λ (outcome : Outcome). with_result outcome core) e in
      later M core (λ h. omega arith) ∙ third_cycle M core (kind_of core.hidden.ir) d ∙ (λ j. transition (finished j) (none j) None)

  in_fourth : core.due ≡ 4
      → written_back (kind_of core.hidden.ir) core.hidden M (effect_before core.hidden.ir (visible_of core)) ≡ effect_before core.hidden.ir (visible_of core)
      → due_cycle M core ≡ transition true core None
  in_fourth d e =
      let finished = last in
      let none = ap (λ (effect : Effect). with_effect effect core) e ∙ same_core core in
      let store = ap (λ (effect : Effect). effect.store) e in
      later M core (λ h. omega arith) ∙ fourth_cycle M core (kind_of core.hidden.ir) d ∙ (λ j. transition (finished j) (none j) (store j))

  by_class : (class : Class) → class_of (kind_of core.hidden.ir) core.flags ≡ class
      → Idle class (kind_of core.hidden.ir) core.hidden M (effect_before core.hidden.ir (visible_of core))
      → 3 ≤ core.due → core.due ≤ 4 → due_cycle M core ≡ transition true core None
  unfolding cost_of
  by_class Stop e idle low high = by (eqb core.due 3) refl
    where
      by : (three : Bool) → eqb core.due 3 ≡ three → due_cycle M core ≡ transition true core None
      by true h = in_third (eqb-true core.due 3 h) idle.0
      by false h = let n = eqb-false core.due 3 h in in_fourth (omega arith) idle.1
  by_class Short e idle low high = let cost = ap count_of e in in_fourth (omega arith) idle
  by_class Full e idle low high = let cost = ap count_of e in absurd (omega arith)

pub foreign_core : ForeignCore
foreign_core M core low high less =
    by_class M core less (class_of (kind_of core.hidden.ir) core.flags) refl
    (past_the_last (kind_of core.hidden.ir) core.hidden M (effect_before core.hidden.ir (visible_of core))) low high
