-- Laws of a run's cycles: which cycle is done, and how they follow one another.
use Rattle.std.specs.Prelude.{None}
use mathlib.Core.Path.{◌≡◌, refl, sym, ap, ◌∙◌}
use mathlib.Core.Bool.{Bool, true, false, cond}
use mathlib.Core.List.{List}
use Prim.Native.Nat.{ℕ, zero, suc, ◌+◌, ◌≤◌, ◌<◌}
use native.Mathlib.Omega.{arith}
use borrow.Author.Tests.{ne_eqb, le-ltb, lt-ltb}
use lib.Dec.{lit≤}
use native.Mathlib.Nat.{zero-add, suc-add}
use Rattle.isa.specs.Cost.{count_of, class_of, cost_of}
use Rattle.isa.specs.declared.Class.{Class}
use Rattle.isa.specs.declared.Class.TheVariants.{Stop, Short, Full}
use Rattle.isa.specs.declared.Flags.{Flags}
use Rattle.isa.specs.declared.Kind.{Kind}
use Rattle.table.specs.Table.{kind_of}
use Rattle.effects.specs.Cycles.{stop_of}
use Rattle.effects.specs.declared.Stop as stop
use Rattle.r8_core.specs.Datapath.{fetched, second, third, fourth_effect, with_effect, transition, idle, is_last, later_cycle, due_cycle, cycle_or_idle}
use Rattle.r8_core.specs.Cores.{Visible}
use Rattle.r8_core.specs.Instruction.{word_due, takes}
use Rattle.r8_core.specs.Numbers.{is_going, longest}
use Rattle.r8_core.specs.Progress.{Progress, cycle_on, cycles_on}
use Rattle.r8_core.specs.declared.Core.{Core}

-- the cycle due is the one that is done
module _ (M : List ℕ) (core : Core) where
  pub first_cycle : core.due ≡ 1 → due_cycle M core ≡ transition false (fetched M core) None
  unfolding due_cycle
  first_cycle e = rw e

  pub later : (core.due ≡ 1 → ⊥) → due_cycle M core ≡ later_cycle (kind_of core.hidden.ir) M core
  unfolding due_cycle
  later n = rw (ne_eqb core.due 1 n)

  pub second_cycle : (kind : Kind) → core.due ≡ 2
      → later_cycle kind M core ≡ transition (is_last kind core) (second (stop_of kind) kind core) None
  unfolding later_cycle
  second_cycle kind e = rw e

  pub third_cycle : (kind : Kind) → core.due ≡ 3 → later_cycle kind M core ≡ transition (is_last kind core) (third kind core) None
  unfolding later_cycle
  third_cycle kind e = rw e

  pub fourth_cycle : (kind : Kind) → core.due ≡ 4
      → later_cycle kind M core ≡ transition (is_last kind core) (with_effect (fourth_effect kind M core) core) (fourth_effect kind M core).store
  unfolding later_cycle
  fourth_cycle kind e = rw e

  pub no_cycle_due : (kind : Kind) → (core.due ≡ 2 → ⊥) → (core.due ≡ 3 → ⊥) → (core.due ≡ 4 → ⊥)
      → later_cycle kind M core ≡ idle core
  unfolding later_cycle
  no_cycle_due kind n2 n3 n4 = rw (ne_eqb core.due 2 n2, ne_eqb core.due 3 n3, ne_eqb core.due 4 n4)

-- within the clock a cycle is done
pub within_clock : (M : List ℕ) (core : Core) → core.clock.0 < 4294967295 → cycle_or_idle M core ≡ due_cycle M core
unfolding cycle_or_idle
within_clock M core h = rw (le-ltb 4294967295 (core.clock.0 + 1) (omega arith))

-- and with the clock full none
pub full_clock : (M : List ℕ) (core : Core) → 4294967295 ≤ core.clock.0 → cycle_or_idle M core ≡ idle core
unfolding cycle_or_idle
full_clock M core h = rw (lt-ltb 4294967295 (core.clock.0 + 1) (omega arith))

-- cycle 2 itself leaves the clock, and the cycle due
pub second_keeps : (s : stop.Stop) (k : Kind) (c : Core) → ((second s k c).clock.0 ≡ c.clock.0) × ((second s k c).due ≡ c.due)
second_keeps stop.TheVariants.Going k c = (refl, refl)
second_keeps stop.TheVariants.Halted k c = (refl, refl)
second_keeps stop.TheVariants.Undefined k c = (refl, refl)

-- a going core does one cycle more, a stopped one none
pub one_more : (n : ℕ) (p : Progress) → is_going p.core.stop ≡ true → cycles_on (suc n) p ≡ cycles_on n (cycle_on p)
unfolding cycles_on
one_more n p e = ap (λ (g : Bool). cond g (cycles_on n (cycle_on p)) p) e

pub none_more : (n : ℕ) (p : Progress) → is_going p.core.stop ≡ false → cycles_on n p ≡ p
unfolding cycles_on
none_more zero p e = refl
none_more (suc n) p e = rw e

pub no_cycle : (p : Progress) → cycles_on 0 p ≡ p
unfolding cycles_on
no_cycle p = refl

-- cycles one after the other
pub cycles_add : (m n : ℕ) (p : Progress) → cycles_on (m + n) p ≡ cycles_on n (cycles_on m p)
cycles_add zero n p = ap (λ (m : ℕ). cycles_on m p) (zero-add n) ∙ ap (cycles_on n) (sym (no_cycle p))
cycles_add (suc m) n p = by (is_going p.core.stop) refl (cycles_add m n (cycle_on p))
  where
    by : (g : Bool) → is_going p.core.stop ≡ g → cycles_on (m + n) (cycle_on p) ≡ cycles_on n (cycles_on m (cycle_on p))
        → cycles_on (suc m + n) p ≡ cycles_on n (cycles_on (suc m) p)
    by true e ih =
        ap (λ (m : ℕ). cycles_on m p) (suc-add m n) ∙ one_more (m + n) p e ∙ ih ∙ ap (cycles_on n) (sym (one_more m p e))
    by false e ih = none_more (suc m + n) p e ∙ sym (none_more n p e) ∙ ap (cycles_on n) (sym (none_more (suc m) p e))

-- cycles and instructions counted before change nothing but the counts
abbrev pub counted : ℕ → ℕ → Progress → Progress
counted used finished p =
    record { core = p.core; memory = p.memory; used = used + p.used; finished = finished + p.finished }

cycle_on_counted : (u f : ℕ) (p : Progress) → cycle_on (counted u f p) ≡ counted u f (cycle_on p)
unfolding cycle_on
cycle_on_counted u f p =
    let q = cycle_on p in
    let used : (cycle_on (counted u f p)).used ≡ u + q.used = omega arith in
    let finished : (cycle_on (counted u f p)).finished ≡ f + q.finished = omega arith in
    λ j. record { core = q.core; memory = q.memory; used = used j; finished = finished j }

pub cycles_counted : (n u f : ℕ) (p : Progress) → cycles_on n (counted u f p) ≡ counted u f (cycles_on n p)
cycles_counted zero u f p = no_cycle (counted u f p) ∙ ap (counted u f) (sym (no_cycle p))
cycles_counted (suc n) u f p = by (is_going p.core.stop) refl (cycles_counted n u f (cycle_on p))
  where
    by : (g : Bool) → is_going p.core.stop ≡ g → cycles_on n (counted u f (cycle_on p)) ≡ counted u f (cycles_on n (cycle_on p))
        → cycles_on (suc n) (counted u f p) ≡ counted u f (cycles_on (suc n) p)
    by true e ih =
        one_more n (counted u f p) e ∙ ap (cycles_on n) (cycle_on_counted u f p) ∙ ih ∙ ap (counted u f) (sym (one_more n p e))
    by false e ih = none_more (suc n) (counted u f p) e ∙ ap (counted u f) (sym (none_more (suc n) p e))

-- the one stop state that is none
pub only_going : (s : stop.Stop) → is_going s ≡ true → s ≡ stop.TheVariants.Going
only_going stop.TheVariants.Going e = refl
only_going stop.TheVariants.Halted e = cc
only_going stop.TheVariants.Undefined e = cc

-- an instruction takes 2 cycles, and at most those of the longest
two_to_four : (class : Class) → (2 ≤ count_of class) × (count_of class ≤ 4)
two_to_four Stop = (lit≤ tt, lit≤ tt)
two_to_four Short = (lit≤ tt, lit≤ tt)
two_to_four Full = (lit≤ tt, lit≤ tt)

pub cost_of_range : (kind : Kind) (flags : Flags) → (2 ≤ cost_of kind flags) × (cost_of kind flags ≤ longest)
unfolding cost_of
cost_of_range kind flags = two_to_four (class_of kind flags)

pub cost_range : (M : List ℕ) (v : Visible) → (2 ≤ takes M v) × (takes M v ≤ longest)
unfolding takes
cost_range M v = cost_of_range (kind_of (word_due M v)) v.flags
