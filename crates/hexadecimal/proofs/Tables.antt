-- A list that holds the values of a function, by one test that is computed over the whole list. Assumes nothing.
use mathlib.Core.Path.{◌≡◌, ap, sym, ◌∙◌}
use mathlib.Core.Bool.{Bool, true, false, ◌&&◌}
use mathlib.Core.List.{List, [], ◌∷◌}
use Prim.Native.Nat.{ℕ, zero, suc, ◌+◌, ◌<◌}
use native.Mathlib.Nat.{add-zero, zero-add, add-suc, suc-add, le_of_suc-le-suc, not-suc-le-zero}
use lib.Dec.{T, eqb, eqb→eq}
use lib.ListN.{length, get_or}

both : (a b : Bool) → T (a && b) → T a × T b
both true b t = (tt, t)
both false b t = absurd t

-- the list has the values from i on
abbrev pub holds : (ℕ → ℕ) → ℕ → List ℕ → Bool
holds f i [] = true
holds f i (x ∷ xs) = eqb (f i) x && holds f (suc i) xs

module _ (f : ℕ → ℕ) where
  from : (xs : List ℕ) (i d : ℕ) → T (holds f i xs) → (k : ℕ) → k < length xs → f (i + k) ≡ get_or xs k d
  from [] i d t k h = absurd (not-suc-le-zero h)
  from (x ∷ xs) i d t zero h = ap f (add-zero i) ∙ eqb→eq (f i) x (both (eqb (f i) x) (holds f (suc i) xs) t).0
  from (x ∷ xs) i d t (suc k) h =
      ap f (add-suc i k ∙ sym (suc-add i k)) ∙ from xs (suc i) d (both (eqb (f i) x) (holds f (suc i) xs) t).1 k (le_of_suc-le-suc h)

  pub at : (xs : List ℕ) → T (holds f 0 xs) → (k d : ℕ) → k < length xs → f k ≡ get_or xs k d
  at xs t k d h = ap f (sym (zero-add k)) ∙ from xs 0 d t k h
