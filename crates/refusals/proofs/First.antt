-- The theorems `LengthExactly` and `FirstExactly` of specs/Theorems.antt, and laws for calls: what tests mean, one at a time, and that a refusal has a number.
use mathlib.Core.Path.{◌≡◌, refl, sym, ap, ◌∙◌}
use mathlib.Core.Logic.{◌↔◌, ◌⊎◌, inl, inr}
use mathlib.Core.Bool.{Bool, true, false, cond}
use mathlib.Core.List.{List, [], ◌∷◌}
use Prim.Native.Nat.{ℕ, suc, ◌<◌}
use native.Mathlib.Omega.{arith}
use borrow.Author.Tests.{ltb-true, eqb-true, eqb-false, lt-ltb}
use lib.Dec.{eqb, ltb}
use Rattle.refusals.specs.Refusals.{refusal_number, first_number}
use Rattle.refusals.specs.Theorems.{First, NoneApplies, Means, MeanAll, LengthExactly, FirstExactly}
use Rattle.refusals.specs.declared.Refusal.{Refusal}
use Rattle.refusals.specs.declared.Refusal.TheVariants.{WrongLength, WrongCycle, Stopped, ClockFull, ShortText}

pub clash : {b : Bool} → b ≡ true → b ≡ false → ⊥
clash t f = let z : ◌≡◌ {A = ℕ} 0 1 = cc in omega arith

-- one number more, before some
one : (n k m : ℕ) (test : Bool) (P : Type 0) (tests : List (ℕ × Bool)) (numbers : List (ℕ × Type 0)) → k ≡ m → (m ≡ 0 → ⊥) → Means test P
    → ((first_number tests ≡ n) × (n ≡ 0 → ⊥)) ↔ First n numbers
    → ((first_number ((k, test) ∷ tests) ≡ n) × (n ≡ 0 → ⊥)) ↔ First n ((m, P) ∷ numbers)
unfolding first_number
one n k m true P tests numbers same nonzero means rest = (λ h. inl (means.0 refl, sym h.0 ∙ same), from)
  where
    from : (P × (n ≡ m)) ⊎ ((P → ⊥) × First n numbers) → (k ≡ n) × (n ≡ 0 → ⊥)
    from (inl h) = (same ∙ sym h.1, λ z. nonzero (sym h.1 ∙ z))
    from (inr h) = absurd (h.0 (means.0 refl))
one n k m false P tests numbers same nonzero means rest = (λ h. inr (means.1 refl, rest.0 h), from)
  where
    from : (P × (n ≡ m)) ⊎ ((P → ⊥) × First n numbers) → (first_number tests ≡ n) × (n ≡ 0 → ⊥)
    from (inl h) = absurd (means.1 refl h.0)
    from (inr h) = rest.1 h.1

pub first_exactly : FirstExactly
unfolding first_number MeanAll
first_exactly [] [] mean n = (λ h. h.1 (sym h.0), λ z. absurd z)
first_exactly [] (y ∷ numbers) mean n = absurd mean
first_exactly (x ∷ tests) [] mean n = absurd mean
first_exactly (x ∷ tests) (y ∷ numbers) (same, nonzero, means, mean) n =
    one n x.0 y.0 x.1 y.1 tests numbers same nonzero means (first_exactly tests numbers mean n)

-- no tests mean no statements; and one test more, that means a statement
pub no_more : MeanAll [] []
unfolding MeanAll
no_more = tt

pub more : (k : ℕ) (test : Bool) (P : Type 0) (tests : List (ℕ × Bool)) (numbers : List (ℕ × Type 0)) → (k ≡ 0 → ⊥) → Means test P
    → MeanAll tests numbers → MeanAll ((k, test) ∷ tests) ((k, P) ∷ numbers)
unfolding MeanAll
more k test P tests numbers nonzero means rest = (refl, nonzero, means, rest)

-- where no number applies, tests find none
pub none_found : (tests : List (ℕ × Bool)) (numbers : List (ℕ × Type 0)) → MeanAll tests numbers → NoneApplies numbers → first_number tests ≡ 0
none_found tests numbers mean none = by (eqb (first_number tests) 0) refl
  where
    by : (b : Bool) → eqb (first_number tests) 0 ≡ b → first_number tests ≡ 0
    by true h = eqb-true (first_number tests) 0 h
    by false h = absurd (none (first_number tests) ((first_exactly tests numbers mean (first_number tests)).0 (refl, eqb-false (first_number tests) 0 h)))

-- and then the first test does not hold, and none of the others
pub none_applies : (n : ℕ) (applies : Bool) (rest : List (ℕ × Bool)) → first_number ((suc n, applies) ∷ rest) ≡ 0
    → (applies ≡ false) × (first_number rest ≡ 0)
unfolding first_number
none_applies n true rest e = absurd (omega arith)
none_applies n false rest e = (refl, e)

-- a test that does not hold is passed by
pub passed : (n : ℕ) (applies : Bool) (rest : List (ℕ × Bool)) → applies ≡ false
    → first_number ((n, applies) ∷ rest) ≡ first_number rest
unfolding first_number
passed n applies rest e = ap (λ (b : Bool). cond b n (first_number rest)) e

pub none_left : first_number [] ≡ 0
unfolding first_number
none_left = refl

-- 0 is no refusal's number
pub has_number : (why : Refusal) → refusal_number why ≡ 0 → ⊥
has_number WrongLength e = omega arith
has_number WrongCycle e = omega arith
has_number Stopped e = omega arith
has_number ClockFull e = omega arith
has_number ShortText e = omega arith

-- '1: L is 0 or above 65,536'
length_by : (L : ℕ) (zero long : Bool) → eqb L 0 ≡ zero → ltb 65536 L ≡ long → Means (cond zero true long) ((L ≡ 0) ⊎ (65536 < L))
length_by L true long z l = (λ _. inl (eqb-true L 0 z), λ e. absurd (clash refl e))
length_by L false true z l = (λ _. inr (ltb-true 65536 L l), λ e. absurd (clash refl e))
length_by L false false z l = (λ e. absurd (clash e refl), λ _. no)
  where
    no : (L ≡ 0) ⊎ (65536 < L) → ⊥
    no (inl h) = eqb-false L 0 z h
    no (inr h) = clash (lt-ltb 65536 L h) l

pub length_exactly : LengthExactly
length_exactly L = length_by L (eqb L 0) (ltb 65536 L) refl refl
