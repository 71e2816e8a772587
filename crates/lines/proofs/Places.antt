-- Places in a list of bytes, one byte further at a time; and a part that goes to the end. Assumes nothing.
use mathlib.Core.Path.{◌≡◌, refl}
use mathlib.Core.Bool.{Bool, true, false, cond, and-false}
use mathlib.Core.List.{List, [], ◌∷◌}
use Prim.Native.Nat.{ℕ, suc, ◌+◌, ◌-◌, ◌≤◌, ◌<◌}
use native.Mathlib.Nat.{le_refl}
use native.Mathlib.Numerals.{add-one}
use native.Mathlib.Omega.{arith}
use borrow.Author.Tests.{eq-eqb, ne_eqb}
use lib.Dec.{eqb}
use lib.ListN.{length, get_or, take, drop, length-drop, drop_of_length-le, get_or-eq_default}
use lib.Seq.{drop-cons, take_all, length-take-le}
use Rattle.hexadecimal.specs.Digits.{digit_value}
use Rattle.lines.specs.declared.Line.TheVariants.{IllFormed}
use Rattle.lines.specs.Lines.{line_feed, semicolon, find, first_line, is_empty, nothing_or_comment, four_digits, number_at, entry_from, entry_of}

-- `&s[i..]`
pub to_end : (s : List ℕ) (i : ℕ) → take (length s - i) (drop i s) ≡ drop i s
to_end s i = take_all (length s - i) (drop i s) (omega (arith, length-drop i s))

pub find_here : (s : List ℕ) (b i : ℕ) → i < length s → get_or s i 0 ≡ b → find b (drop i s) ≡ 0
unfolding find
find_here s b i h e = rw (drop-cons s i 0 h, eq-eqb (get_or s i 0) b e)

pub find_further : (s : List ℕ) (b i : ℕ) → i < length s → (get_or s i 0 ≡ b → ⊥) → find b (drop i s) ≡ suc (find b (drop (i + 1) s))
unfolding find
find_further s b i h e = rw (add-one, drop-cons s i 0 h, ne_eqb (get_or s i 0) b e)

pub find_nothing : (s : List ℕ) (b i : ℕ) → length s ≤ i → find b (drop i s) ≡ 0
unfolding find
find_nothing s b i h = rw (drop_of_length-le s h)

pub find_le : (b : ℕ) (s : List ℕ) → find b s ≤ length s
unfolding find
find_le b [] = le_refl 0
find_le b (x ∷ s) = by (eqb x b) (find_le b s) where
  by : (t : Bool) → find b s ≤ length s → cond t 0 (suc (find b s)) ≤ suc (length s)
  by true h = omega arith
  by false h = omega arith

-- as many bytes stand before the byte that is found
pub before_length : (b : ℕ) (s : List ℕ) → length (take (find b s) s) ≡ find b s
before_length b s = length-take-le (find b s) s (find_le b s)

pub first_length : (s : List ℕ) → length (first_line s) ≡ find line_feed s
first_length s = before_length line_feed s

pub empty : (t : List ℕ) → length t ≡ 0 → is_empty t ≡ true
empty [] e = refl
empty (b ∷ t) e = absurd (omega (arith, e))

pub not_empty : (t : List ℕ) → (length t ≡ 0 → ⊥) → is_empty t ≡ false
not_empty [] n = absurd (n refl)
not_empty (b ∷ t) n = refl

-- a line's end, by the first byte after the spaces, if any
pub ends_at_end : (t : List ℕ) → length t ≡ 0 → nothing_or_comment t ≡ true
ends_at_end [] e = refl
ends_at_end (b ∷ t) e = absurd (omega (arith, e))

pub ends_by_byte : (t : List ℕ) → (length t ≡ 0 → ⊥) → nothing_or_comment t ≡ eqb (get_or t 0 0) semicolon
ends_by_byte [] n = absurd (n refl)
ends_by_byte (b ∷ t) n = refl

-- no number stands at a place with fewer than four bytes from there on
pub no_four : (line : List ℕ) (i : ℕ) → length line < i + 4 → number_at line i ≡ 65536
unfolding number_at four_digits digit_value
no_four line i h =
    let e : get_or line (i + 3) 0 ≡ 0 = get_or-eq_default line 0 (omega arith) in
    rw (e, and-false)

-- so a line of fewer than nine bytes has no word
pub too_short : (line : List ℕ) → length line < 9 → entry_of line ≡ IllFormed
unfolding entry_of entry_from
too_short line h = rw (no_four line 5 h, and-false)
