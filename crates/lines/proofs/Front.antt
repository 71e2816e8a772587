-- The lines of a listing are its first line and the lines of what follows. Assumes nothing.
use mathlib.Core.Path.{◌≡◌, refl, ap, ◌∙◌}
use mathlib.Core.Bool.{Bool, true, false, cond}
use mathlib.Core.List.{List, [], ◌∷◌}
use Prim.Native.Nat.{ℕ, suc, ◌+◌, ◌-◌, ◌≤◌, ◌<◌}
use native.Mathlib.Numerals.{add-one}
use native.Mathlib.Omega.{arith}
use lib.Dec.{eqb}
use lib.ListN.{length, take, drop, length-drop, drop_of_length-le}
use lib.Seq.{drop-drop}
use Rattle.lines.specs.Lines.{line_feed, prepend, lines, find, first_line}
use Rattle.lines.proofs.Places.{find_le, first_length}

-- a byte more before the lines: an LF ends an empty line, any other byte is the first line's
module _ (b : ℕ) (t : List ℕ) (ih : prepend b (lines t) ≡ (b ∷ first_line t) ∷ lines (drop (suc (find line_feed t)) t)) where
  one_more : (x : Bool) → cond x ([] ∷ lines t) (prepend b (lines t))
      ≡ take (cond x 0 (suc (find line_feed t))) (b ∷ t) ∷ lines (drop (cond x 0 (suc (find line_feed t))) t)
  one_more true = refl
  one_more false = ih

split : (b : ℕ) (t : List ℕ) → lines (b ∷ t) ≡ first_line (b ∷ t) ∷ lines (drop (suc (find line_feed (b ∷ t))) (b ∷ t))
unfolding lines find
split b [] = one_more b [] refl (eqb b line_feed)
split b (c ∷ t) = one_more b (c ∷ t) (ap (prepend b) (split c t)) (eqb b line_feed)

pub front : (t : List ℕ) → 0 < length t → lines t ≡ first_line t ∷ lines (drop (length (first_line t) + 1) t)
front [] h = absurd (omega arith)
front (b ∷ t) h = rw (first_length (b ∷ t), add-one) (split b t)

-- the same at a place of a listing, and the place of the next line
pub front_at : (s : List ℕ) (at : ℕ) → at < length s
    → lines (drop at s) ≡ first_line (drop at s) ∷ lines (drop (at + (length (first_line (drop at s)) + 1)) s)
front_at s at h =
    front (drop at s) (omega (arith, length-drop at s))
    ∙ ap (λ (t : List ℕ). first_line (drop at s) ∷ lines t) (drop-drop (length (first_line (drop at s)) + 1) at s)

pub first_in : (s : List ℕ) (at : ℕ) → length (first_line (drop at s)) ≤ length s - at
first_in s at = omega (arith, first_length (drop at s), find_le line_feed (drop at s), length-drop at s)

-- past the last line nothing is left
pub lines_past : (s : List ℕ) (at : ℕ) → length s ≤ at → lines (drop at s) ≡ []
unfolding lines
lines_past s at h = rw (drop_of_length-le s h)
