-- Eight bytes looked through at once. Assumes nothing.
use mathlib.Core.Path.{◌≡◌, refl, sym, ◌∙◌}
use mathlib.Core.Bool.{Bool, true, false, cond, not, ◌&&◌}
use mathlib.Core.List.{List, [], ◌∷◌}
use Prim.Native.Nat.{ℕ, zero, suc, ◌+◌, ◌≤◌, ◌<◌}
use native.Mathlib.Nat.{add-zero, add-suc}
use native.Mathlib.Omega.{arith}
use lib.Dec.{eqb, leb, leb-zero, leb-suc-zero, leb-suc-suc}
use lib.ListN.{length, get_or, drop}
use lib.Seq.{drop-cons}
use Rattle.lines.specs.Lines.{find}

-- bytes that are passed
pub find_over : (b n : ℕ) (s : List ℕ) → n ≤ find b s → find b s ≡ n + find b (drop n s)
unfolding find
find_over b zero s h = omega arith
find_over b (suc n) [] h = absurd (omega arith)
find_over b (suc n) (x ∷ s) h = by (eqb x b) (find_over b n s) h where
  by : (v : Bool) → (n ≤ find b s → find b s ≡ n + find b (drop n s)) → suc n ≤ cond v 0 (suc (find b s)) → cond v 0 (suc (find b s)) ≡ suc n + find b (drop n s)
  by true ih l = absurd (omega arith)
  by false ih l = omega (arith, ih (omega arith))

grouped : (a b c d e f g h : Bool) → ((((a && b) && c) && d) && (((e && f) && g) && h)) ≡ (a && (b && (c && (d && (e && (f && (g && (h && true))))))))
grouped true true true true true true true true = refl
grouped true true true true true true true false = refl
grouped true true true true true true false h = refl
grouped true true true true true false g h = refl
grouped true true true true false f g h = refl
grouped true true true false e f g h = refl
grouped true true false d e f g h = refl
grouped true false c d e f g h = refl
grouped false b c d e f g h = refl

module _ (s : List ℕ) (b i : ℕ) where
  abbrev other : ℕ → Bool
  other k = not (eqb (get_or s (i + k) 0) b)

  one : (n k : ℕ) → i + k < length s → leb (suc n) (find b (drop (i + k) s)) ≡ (other k && leb n (find b (drop (i + suc k) s)))
  unfolding find
  one n k h = rw (add-suc i k, drop-cons s (i + k) 0 h) (by (eqb (get_or s (i + k) 0) b) (find b (drop (suc (i + k)) s))) where
    by : (v : Bool) (m : ℕ) → leb (suc n) (cond v 0 (suc m)) ≡ (not v && leb n m)
    by true m = leb-suc-zero n
    by false m = leb-suc-suc n m

  pub eight : i + 8 ≤ length s
      → ((((not (eqb (get_or s i 0) b) && other 1) && other 2) && other 3) && (((other 4 && other 5) && other 6) && other 7)) ≡ leb 8 (find b (drop i s))
  eight h =
      let start : leb 8 (find b (drop i s)) ≡ (not (eqb (get_or s i 0) b) && leb 7 (find b (drop (i + 1) s))) = rw (add-zero i) at (one 7 0 (omega arith)) in
      grouped (not (eqb (get_or s i 0) b)) (other 1) (other 2) (other 3) (other 4) (other 5) (other 6) (other 7)
      ∙ sym (rw (start, one 6 1 (omega arith), one 5 2 (omega arith), one 4 3 (omega arith), one 3 4 (omega arith), one 2 5 (omega arith), one 1 6 (omega arith), one 0 7 (omega arith), leb-zero))
