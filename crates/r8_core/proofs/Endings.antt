-- How the cycles of a run end: the letters by the stop state and the cycle due, the budget and the clock by the cycles that were done.
use Rattle.std.specs.Prelude.{Option, None}
use mathlib.Core.Path.{◌≡◌, refl, ap, ◌∙◌}
use mathlib.Core.Logic.{◌↔◌}
use mathlib.Core.Bool.{Bool, true, false}
use mathlib.Core.List.{List}
use Prim.Native.Nat.{ℕ, zero, suc, ◌+◌, ◌≤◌}
use native.Mathlib.Omega.{arith}
use borrow.Author.Tests.{eqb-false, le-leb}
use lib.Dec.{eqb, lit≤}
use Rattle.isa.specs.Cost.{cost_of}
use Rattle.table.specs.Table.{kind_of}
use Rattle.effects.specs.Cycles.{stop_of}
use Rattle.effects.specs.declared.Store.{Store}
use Rattle.effects.specs.declared.Stop.{Stop}
use Rattle.effects.specs.declared.Stop.TheVariants.{Going, Halted, Undefined}
use Rattle.r8_core.specs.Datapath.{fetched, second, third, due_after, transition, is_last, due_cycle}
use Rattle.r8_core.specs.Numbers.{is_going}
use Rattle.r8_core.specs.Spent.{due_in_range, due_one}
use Rattle.r8_core.specs.Progress.{Progress, cycle_on, cycles_on}
use Rattle.r8_core.specs.Calls.{end_of}
use Rattle.r8_core.specs.TheoremsOfCalls.{Letter}
use Rattle.r8_core.specs.declared.Core.{Core}
use Rattle.r8_core.specs.declared.End.{End}
use Rattle.r8_core.specs.declared.End.TheVariants.{H, U, B, M}
use Rattle.r8_core.proofs.Spent.{due_when_one, one_when_due, due_when, range_when}
use Rattle.refusals.proofs.First.{clash}
use Rattle.r8_core.proofs.Cycles.{first_cycle, later, second_cycle, third_cycle, fourth_cycle, second_keeps, no_cycle, one_more, none_more, cost_of_range}

neither : {P Q : Type 0} → (P → ⊥) → (Q → ⊥) → P ↔ Q
neither p q = (λ x. absurd (p x), λ y. absurd (q y))

hold : {P Q : Type 0} → P → Q → P ↔ Q
hold p q = (λ _. q, λ _. p)

-- letters and stop states by number, to tell them apart
abbrev end_number : End → ℕ
end_number H = 0
end_number U = 1
end_number B = 2
end_number M = 3

abbrev stop_number : Stop → ℕ
stop_number Going = 0
stop_number Halted = 1
stop_number Undefined = 2

other_end : (a b : End) → eqb (end_number a) (end_number b) ≡ false → a ≡ b → ⊥
other_end a b d e = eqb-false (end_number a) (end_number b) d (ap end_number e)

other_stop : (a b : Stop) → eqb (stop_number a) (stop_number b) ≡ false → a ≡ b → ⊥
other_stop a b d e = eqb-false (stop_number a) (stop_number b) d (ap stop_number e)

letters : (s : Stop) (One : Type 0) (one : Bool) → (one ≡ true → One) → (one ≡ false → One → ⊥)
    → ((end_of s one ≡ H) ↔ (s ≡ Halted))
    × ((end_of s one ≡ U) ↔ (s ≡ Undefined))
    × ((end_of s one ≡ B) ↔ ((s ≡ Going) × One))
    × ((end_of s one ≡ M) ↔ ((s ≡ Going) × (One → ⊥)))
letters Going One true t f = (
  neither (other_end B H refl) (other_stop Going Halted refl),
  neither (other_end B U refl) (other_stop Going Undefined refl),
  hold refl (refl, t refl),
  neither (other_end B M refl) (λ z. z.1 (t refl)),
)
letters Going One false t f = (
  neither (other_end M H refl) (other_stop Going Halted refl),
  neither (other_end M U refl) (other_stop Going Undefined refl),
  neither (other_end M B refl) (λ z. f refl z.1),
  hold refl (refl, f refl),
)
letters Halted One one t f = (
  hold refl refl,
  neither (other_end H U refl) (other_stop Halted Undefined refl),
  neither (other_end H B refl) (λ z. other_stop Halted Going refl z.0),
  neither (other_end H M refl) (λ z. other_stop Halted Going refl z.0),
)
letters Undefined One one t f = (
  neither (other_end U H refl) (other_stop Undefined Halted refl),
  hold refl refl,
  neither (other_end U B refl) (λ z. other_stop Undefined Going refl z.0),
  neither (other_end U M refl) (λ z. other_stop Undefined Going refl z.0),
)

pub letter : (core : Core) → Letter (end_of core.stop (due_one core)) core
letter core =
    letters core.stop (core.due ≡ 1) (due_one core) (due_when_one core) (λ e d. clash (one_when_due core d) e)

-- the cycles done are the budget, or fewer and the core is stopped
pub budget : (n : ℕ) (p : Progress)
    → ((cycles_on n p).used ≤ p.used + n) × (is_going (cycles_on n p).core.stop ≡ true → (cycles_on n p).used ≡ p.used + n)
unfolding cycle_on
budget zero p = rw (no_cycle p) (omega arith, λ _. omega arith)
budget (suc n) p = by (is_going p.core.stop) refl (budget n (cycle_on p))
  where
    by : (g : Bool) → is_going p.core.stop ≡ g
        → ((cycles_on n (cycle_on p)).used ≤ (cycle_on p).used + n)
        × (is_going (cycles_on n (cycle_on p)).core.stop ≡ true → (cycles_on n (cycle_on p)).used ≡ (cycle_on p).used + n)
        → ((cycles_on (suc n) p).used ≤ p.used + suc n)
        × (is_going (cycles_on (suc n) p).core.stop ≡ true → (cycles_on (suc n) p).used ≡ p.used + suc n)
    by true g ih = rw (one_more n p g) (omega (arith, ih.0), λ e. omega (arith, ih.1 e))
    by false g ih =
        rw (none_more (suc n) p g) (omega arith, λ e. absurd (let z : ◌≡◌ {A = ℕ} 0 1 = cc in omega arith))

-- every cycle moves the clock by 1, and leaves one of 1 to 4 due
due_after_range : (finished : Bool) (due : ℕ) → due ≤ 3 → (1 ≤ due_after finished due) × (due_after finished due ≤ 4)
due_after_range true due h = (lit≤ tt, lit≤ tt)
due_after_range false due h = (omega arith, omega arith)

pub record Ticks (before after : Core) : Type 0 where
  pub clock : after.clock.0 ≡ before.clock.0 + 1
  pub due : due_in_range after ≡ true

ticks : (finished : Bool) (before core : Core) (store : Option Store) → core.clock.0 ≡ before.clock.0 → core.due ≤ 3
    → Ticks before (transition finished core store).core
ticks finished before core store c d =
    let r = due_after_range finished core.due d in
    record { clock = ap (λ (n : ℕ). n + 1) c; due = range_when (transition finished core store).core r.0 r.1 }

four_cases : (P : Type 0) (n : ℕ) → 1 ≤ n → n ≤ 4 → (n ≡ 1 → P) → (n ≡ 2 → P) → (n ≡ 3 → P) → (n ≡ 4 → P) → P
four_cases P zero l h p1 p2 p3 p4 = absurd (omega arith)
four_cases P (suc zero) l h p1 p2 p3 p4 = p1 refl
four_cases P (suc (suc zero)) l h p1 p2 p3 p4 = p2 refl
four_cases P (suc (suc (suc zero))) l h p1 p2 p3 p4 = p3 refl
four_cases P (suc (suc (suc (suc zero)))) l h p1 p2 p3 p4 = p4 refl
four_cases P (suc (suc (suc (suc (suc n))))) l h p1 p2 p3 p4 = absurd (omega arith)

pub cycle_ticks : (memory : List ℕ) (core : Core) → due_in_range core ≡ true → Ticks core (due_cycle memory core).core
cycle_ticks memory core due =
    let k = kind_of core.hidden.ir in
    let r = due_when core due in
    four_cases (Ticks core (due_cycle memory core).core) core.due r.0 r.1
    (λ d. rw (first_cycle memory core d) (ticks false core (fetched memory core) None refl (omega arith)))
    (λ d. let keeps = second_keeps (stop_of k) k core in
    rw (later memory core (λ e. omega arith) ∙ second_cycle memory core k d)
    (ticks (is_last k core) core (second (stop_of k) k core) None keeps.0 (omega arith)))
    (λ d. rw (later memory core (λ e. omega arith) ∙ third_cycle memory core k d)
    (ticks (is_last k core) core (third k core) None refl (omega arith)))
    (λ d. let last : is_last k core ≡ true = le-leb (cost_of k core.flags) core.due (omega (arith, (cost_of_range k core.flags).1)) in
    rw (later memory core (λ e. omega arith) ∙ fourth_cycle memory core k d, last)
    (record { clock = refl; due = refl }))

-- so the clock moves by what is used
pub clock_moves : (n : ℕ) (p : Progress) → due_in_range p.core ≡ true
    → (cycles_on n p).core.clock.0 + p.used ≡ p.core.clock.0 + (cycles_on n p).used
unfolding cycle_on
clock_moves zero p due = rw (no_cycle p) refl
clock_moves (suc n) p due =
    let t = cycle_ticks p.memory p.core due in
    by (is_going p.core.stop) refl (clock_moves n (cycle_on p) t.due) t
  where
    by : (g : Bool) → is_going p.core.stop ≡ g
        → (cycles_on n (cycle_on p)).core.clock.0 + (cycle_on p).used ≡ (cycle_on p).core.clock.0 + (cycles_on n (cycle_on p)).used
        → Ticks p.core (due_cycle p.memory p.core).core
        → (cycles_on (suc n) p).core.clock.0 + p.used ≡ p.core.clock.0 + (cycles_on (suc n) p).used
    by true g ih t = rw (one_more n p g) (omega (arith, t.clock))
    by false g ih t = rw (none_more (suc n) p g) refl
