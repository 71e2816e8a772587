-- What the number 1 and 'the first that applies' mean, and that no two refusals have one number: three statements, proved in proofs/First.antt
-- and proofs/Apart.antt.
use Rattle.std.specs.Prelude.{◌≡◌, ◌↔◌, ◌⊎◌, Bool, true, false, List, [], ◌∷◌, ℕ, ◌<◌}
use Rattle.refusals.specs.Refusals.{refusal_number, wrong_length, first_number}
use Rattle.refusals.specs.declared.Refusal.{Refusal}

-- of some numbers in their order, n is the first that applies; and none does: the call is taken (a load then comes to its
-- lines, which may still refuse it)
abbrev pub First : ℕ → List (ℕ × Type 0) → Type 0
First n [] = ⊥
First n (x ∷ rest) = (x.1 × (n ≡ x.0)) ⊎ ((x.1 → ⊥) × First n rest)

abbrev pub NoneApplies : List (ℕ × Type 0) → Type 0
NoneApplies numbers = (n : ℕ) → First n numbers → ⊥

-- a test means a statement
abbrev pub Means : Bool → Type 0 → Type 0
Means test P = (test ≡ true → P) × (test ≡ false → P → ⊥)

-- '1: L is 0 or above 65,536' (proved as `length_exactly`)
abbrev pub LengthExactly : Type 0
LengthExactly = (L : ℕ) → Means (wrong_length L) ((L ≡ 0) ⊎ (65536 < L))

-- tests mean statements, in the same order and with the same numbers, none of them 0
unfoldable pub MeanAll : List (ℕ × Bool) → List (ℕ × Type 0) → Type 0
MeanAll [] [] = Unit
MeanAll [] (y ∷ numbers) = ⊥
MeanAll (x ∷ tests) [] = ⊥
MeanAll (x ∷ tests) (y ∷ numbers) = (x.0 ≡ y.0) × (y.0 ≡ 0 → ⊥) × Means x.1 y.1 × MeanAll tests numbers

-- the number that tests find is the first that applies of what they mean (proved as `first_exactly`)
abbrev pub FirstExactly : Type 1
FirstExactly =
    (tests : List (ℕ × Bool)) (numbers : List (ℕ × Type 0)) → MeanAll tests numbers
    → (n : ℕ) → ((first_number tests ≡ n) × (n ≡ 0 → ⊥)) ↔ First n numbers

-- 'this paper's number .. for each of its cases': each has its own, so that the number says which it is (proved as `numbers_apart`)
abbrev pub NumbersApart : Type 0
NumbersApart = (x y : Refusal) → refusal_number x ≡ refusal_number y → x ≡ y
