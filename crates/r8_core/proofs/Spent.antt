-- Laws of the cycle due and the cycles spent.
use mathlib.Core.Path.{◌≡◌, refl, sym, ◌∙◌}
use mathlib.Core.Bool.{Bool, true, false, cond}
use Prim.Native.Nat.{ℕ, zero, suc, ◌+◌, ◌-◌, ◌≤◌}
use native.Mathlib.Omega.{arith}
use borrow.Author.Tests.{leb-true, le-leb, lt-leb, eqb-true, eq-eqb, ne_eqb}
use lib.Dec.{eqb, leb}
use Rattle.r8_core.specs.Spent.{spent_of, due_in_range, due_one}
use Rattle.r8_core.specs.declared.Core.{Core}

-- that none is spent says that cycle 1 is due
pub one_due_lem : (core : Core) → due_one core ≡ eqb core.due 1
one_due_lem core = by core.due
  where
    by : (due : ℕ) → cond (cond (leb 1 due) (leb due 4) false) (eqb (due - 1) 0) false ≡ eqb due 1
    by zero = refl
    by (suc zero) = refl
    by (suc (suc zero)) = refl
    by (suc (suc (suc zero))) = refl
    by (suc (suc (suc (suc zero)))) = refl
    by (suc (suc (suc (suc (suc n))))) =
        rw (le-leb 1 (suc (suc (suc (suc (suc n))))) (omega arith), lt-leb (suc (suc (suc (suc (suc n))))) 4 (omega arith))
        (sym (ne_eqb (suc (suc (suc (suc (suc n))))) 1 (λ e. omega arith)))

pub due_when_one : (core : Core) → due_one core ≡ true → core.due ≡ 1
due_when_one core e = eqb-true core.due 1 (sym (one_due_lem core) ∙ e)

pub one_when_due : (core : Core) → core.due ≡ 1 → due_one core ≡ true
one_when_due core e = one_due_lem core ∙ eq-eqb core.due 1 e

-- two tests that both hold
pub both : (p q : Bool) → cond p q false ≡ true → (p ≡ true) × (q ≡ true)
both true true e = (refl, refl)
both true false e = absurd (let z : ◌≡◌ {A = ℕ} 0 1 = cc in omega arith)
both false q e = absurd (let z : ◌≡◌ {A = ℕ} 0 1 = cc in omega arith)

-- one of 1 to 4
pub due_when : (core : Core) → due_in_range core ≡ true → (1 ≤ core.due) × (core.due ≤ 4)
due_when core e =
    let r = both (leb 1 core.due) (leb core.due 4) e in
    (leb-true 1 core.due r.0, leb-true core.due 4 r.1)

pub due_of_spent : (core : Core) → due_in_range core ≡ true → core.due ≡ spent_of core + 1
due_of_spent core e = let low = (due_when core e).0 in omega arith

pub range_when : (core : Core) → 1 ≤ core.due → core.due ≤ 4 → due_in_range core ≡ true
range_when core low high =
    let l = le-leb 1 core.due low in
    let h = le-leb core.due 4 high in
    λ j. cond (l j) (h j) false

pub none_spent_lem : (core : Core) → due_one core ≡ true → spent_of core ≡ 0
none_spent_lem core e = eqb-true (spent_of core) 0 (both (due_in_range core) (eqb (spent_of core) 0) e).1

pub range_when_one : (core : Core) → due_one core ≡ true → due_in_range core ≡ true
range_when_one core e = (both (due_in_range core) (eqb (spent_of core) 0) e).0
