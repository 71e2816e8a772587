-- Words at the front of a line. Assumes nothing.
use mathlib.Core.Path.{◌≡◌, refl, sym, ◌∙◌}
use mathlib.Core.Bool.{Bool, true, false, cond, ◌&&◌}
use mathlib.Core.List.{List, [], ◌∷◌}
use Prim.Native.Nat.{ℕ, suc, ◌≤◌}
use native.Mathlib.Omega.{arith}
use lib.Dec.{eqb}
use lib.ListN.{length, take, drop}
use lib.Pointwise.{pointwise}
use Rattle.script.specs.Commands.{run_word, listing_word, begins, decimal_of, run_of, listing_at, with_numbers}
use Rattle.script.specs.declared.Command.TheVariants.{Unknown}

-- as the library compares the front of a line with a word
pub begins_there : (word line : List ℕ) → pointwise eqb (take (length word) line) word ≡ begins word line
unfolding begins
begins_there [] line = refl
begins_there (w ∷ word) [] = refl
begins_there (w ∷ word) (b ∷ line) = by (eqb b w) (begins_there word line) where
  by : (t : Bool) → pointwise eqb (take (length word) line) word ≡ begins word line
      → t && pointwise eqb (take (length word) line) word ≡ cond t (begins word line) false
  by true e = e
  by false e = refl

pub begins_length : (word line : List ℕ) → begins word line ≡ true → length word ≤ length line
unfolding begins
begins_length [] line e = omega arith
begins_length (w ∷ word) [] e = let z : ◌≡◌ {A = ℕ} 0 1 = cc in absurd (omega arith)
begins_length (w ∷ word) (b ∷ line) e = by (eqb b w) e (begins_length word line) where
  by : (t : Bool) → cond t (begins word line) false ≡ true → (begins word line ≡ true → length word ≤ length line)
      → suc (length word) ≤ suc (length line)
  by true e ih = omega (arith, ih e)
  by false e ih = let z : ◌≡◌ {A = ℕ} 0 1 = cc in absurd (omega arith)

-- by the word that a line begins with
module _ (line : List ℕ) where
  pub with_run : (rest : List ℕ) → pointwise eqb (take 4 line) run_word ≡ true → rest ≡ drop 4 line → run_of (decimal_of rest) ≡ with_numbers line
  unfolding with_numbers
  with_run rest e r = rw (sym (begins_there run_word line) ∙ e, r) refl

  pub with_listing : (rest : List ℕ) → pointwise eqb (take 4 line) run_word ≡ false → pointwise eqb (take 8 line) listing_word ≡ true
      → rest ≡ drop 8 line → listing_at rest ≡ with_numbers line
  unfolding with_numbers
  with_listing rest d e r = rw (sym (begins_there run_word line) ∙ d, sym (begins_there listing_word line) ∙ e, r) refl

  pub with_neither : pointwise eqb (take 4 line) run_word ≡ false → pointwise eqb (take 8 line) listing_word ≡ false → Unknown ≡ with_numbers line
  unfolding with_numbers
  with_neither d e = rw (sym (begins_there run_word line) ∙ d, sym (begins_there listing_word line) ∙ e) refl
