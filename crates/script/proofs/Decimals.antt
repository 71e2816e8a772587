-- The digits of a decimal number, one further at a time; its size. Assumes nothing.
use mathlib.Core.Path.{◌≡◌, refl, sym, ap, ◌∙◌}
use mathlib.Core.Bool.{Bool, true, false, cond, not, ◌&&◌}
use mathlib.Core.List.{List, [], ◌∷◌}
use Prim.Native.Nat.{ℕ, suc, ◌+◌, ◌-◌, ◌*◌, ◌≤◌, ◌<◌}
use native.Mathlib.Numerals.{add-one}
use native.Mathlib.Omega.{arith}
use borrow.Author.Tests.{leb-true, le-leb, leb-false, lt-leb, ltb-false}
use lib.Dec.{leb}
use lib.ListN.{length, get_or, take, drop}
use lib.Seq.{drop-cons}
use Rattle.std.specs.Prelude.{Option, Some, None, unwrap_or, position, nat_lt}
use Rattle.std.proofs.lemmas.List.{get_or-take, length-take}
use Rattle.std.proofs.lemmas.List.Sums.{prefix_len-le-length, prefix_len_passes}
use Rattle.std.specs.List.{prefix_len, position_or_len}
use Rattle.lines.specs.Lines.{after_spaces, ends}
use Rattle.script.specs.Commands.{is_digit, value_of, decimal_from, decimal_of}

pub digit_range : (b : ℕ) → is_digit b ≡ true → (48 ≤ b) × (b ≤ 57)
unfolding is_digit
digit_range b = by (leb 48 b) refl (leb b 57) refl where
  by : (p : Bool) → leb 48 b ≡ p → (q : Bool) → leb b 57 ≡ q → p && q ≡ true → (48 ≤ b) × (b ≤ 57)
  by true p true q e = (leb-true 48 b p, leb-true b 57 q)
  by true p false q e = let z : ◌≡◌ {A = ℕ} 0 1 = cc in absurd (omega arith)
  by false p q r e = let z : ◌≡◌ {A = ℕ} 0 1 = cc in absurd (omega arith)

-- a value with one digit more
abbrev grown : ℕ → ℕ → ℕ
grown n b = n * 10 + (b - 48)

module _ (n : ℕ) (s : List ℕ) (i : ℕ) where
  digit_read : i < length s → is_digit (get_or s i 0) ≡ true
      → decimal_from n (drop i s) ≡ decimal_from (grown n (get_or s i 0)) (drop (i + 1) s)
  unfolding decimal_from
  digit_read h d = rw (add-one, drop-cons s i 0 h, d)

-- no value where the line does not end
not_ended : (n : ℕ) (ended : Bool) → ended ≡ false → value_of n ended ≡ None
unfolding value_of
not_ended n ended e = rw e (by (leb n 4294967295)) where
  by : (b : Bool) → cond (b && false) (Some n) None ≡ None
  by true = refl
  by false = refl

-- of a value at the end: its size decides
pub has_value : (n : ℕ) → n ≤ 4294967295 → value_of n true ≡ Some n
unfolding value_of
has_value n h = rw (le-leb n 4294967295 h)

small_value : (n v : ℕ) → value_of n true ≡ Some v → v ≤ 4294967295
unfolding value_of
small_value n v = by (leb n 4294967295) refl where
  by : (b : Bool) → leb n 4294967295 ≡ b → cond (b && true) (Some n) None ≡ Some v → v ≤ 4294967295
  by true b e = let same : n ≡ v = cc in omega (arith, leb-true n 4294967295 b, same)
  by false b e = let z : ◌≡◌ {A = ℕ} 0 1 = cc in absurd (omega arith)

same_value : (n v : ℕ) → value_of n true ≡ Some v → n ≡ v
unfolding value_of
same_value n v = by (leb n 4294967295) where
  by : (b : Bool) → cond (b && true) (Some n) None ≡ Some v → n ≡ v
  by true e = cc
  by false e = let z : ◌≡◌ {A = ℕ} 0 1 = cc in absurd (omega arith)

above : (n : ℕ) → value_of n true ≡ None → 4294967295 < n
unfolding value_of
above n = by (leb n 4294967295) refl where
  by : (b : Bool) → leb n 4294967295 ≡ b → cond (b && true) (Some n) None ≡ None → 4294967295 < n
  by true b e = let z : ◌≡◌ {A = ℕ} 0 1 = cc in absurd (omega arith)
  by false b e = leb-false n 4294967295 b

-- a value above 32 bits stays above
no_value : (n : ℕ) (ended : Bool) → 4294967295 < n → value_of n ended ≡ None
unfolding value_of
no_value n ended h = rw (lt-leb n 4294967295 h)

pub too_large : (n : ℕ) (t : List ℕ) → 4294967295 < n → decimal_from n t ≡ None
unfolding decimal_from
too_large n [] h = no_value n true h
too_large n (b ∷ t) h = by (is_digit b) (too_large (grown n b) t (omega arith)) where
  by : (d : Bool) → decimal_from (grown n b) t ≡ None
      → cond d (decimal_from (grown n b) t) (value_of n (ends (b ∷ t))) ≡ None
  by true e = e
  by false e = no_value n (ends (b ∷ t)) h

-- how many digits stand at the front, as the library finds the first byte that is none
pub digits_counted : (s : List ℕ) → unwrap_or (position (λ b. not (is_digit b)) s) (length s) ≡ prefix_len is_digit s
digits_counted s = by (nat_lt (position_or_len other s) (length s)) refl ∙ same
  where
    other : ℕ → Bool
    other b = not (is_digit b)

    twice : (d : Bool) → not (not d) ≡ d
    twice true = refl
    twice false = refl

    same : position_or_len other s ≡ prefix_len is_digit s
    same j = prefix_len (λ b. twice (is_digit b) j) s

    by : (t : Bool) → nat_lt (position_or_len other s) (length s) ≡ t
        → unwrap_or (cond t (Some (position_or_len other s)) None) (length s) ≡ position_or_len other s
    by true t = refl
    by false t = omega (arith, prefix_len-le-length (λ b. not (other b)) s, ltb-false _ _ t)

pub digits_within : (s : List ℕ) → unwrap_or (position (λ b. not (is_digit b)) s) (length s) ≤ length s
digits_within s = rw (digits_counted s) (prefix_len-le-length is_digit s)

skip : (k b : ℕ) (t : List ℕ) → drop (1 + k) (b ∷ t) ≡ drop k t
skip k b t = let one : 1 + k ≡ suc k = omega arith in ap (λ (n : ℕ). drop n (b ∷ t)) one

-- what is behind them ends the number
pub digits_over : (n : ℕ) (s : List ℕ)
    → decimal_from n (drop (prefix_len is_digit s) s) ≡ value_of n (ends (drop (prefix_len is_digit s) s))
unfolding decimal_from after_spaces
digits_over n [] = refl
digits_over n (b ∷ t) = by (is_digit b) refl (digits_over n t) where
  by : (d : Bool) → is_digit b ≡ d
      → decimal_from n (drop (prefix_len is_digit t) t) ≡ value_of n (ends (drop (prefix_len is_digit t) t))
      → decimal_from n (drop (cond d (1 + prefix_len is_digit t) 0) (b ∷ t)) ≡ value_of n (ends (drop (cond d (1 + prefix_len is_digit t) 0) (b ∷ t)))
  by true d e = rw (skip (prefix_len is_digit t) b t) e
  by false d e = rw d refl

-- and where a line cannot end so, there is none
no_end : (n : ℕ) (s : List ℕ) → ends (drop (prefix_len is_digit s) s) ≡ false → decimal_from n s ≡ None
unfolding decimal_from after_spaces
no_end n [] e = let z : ◌≡◌ {A = ℕ} 0 1 = cc in absurd (omega arith)
no_end n (b ∷ t) e = by (is_digit b) (no_end (grown n b) t) e where
  by : (d : Bool) → (ends (drop (prefix_len is_digit t) t) ≡ false → decimal_from (grown n b) t ≡ None)
      → ends (drop (cond d (1 + prefix_len is_digit t) 0) (b ∷ t)) ≡ false
      → cond d (decimal_from (grown n b) t) (value_of n (ends (b ∷ t))) ≡ None
  by true ih e = ih (ap ends (sym (skip (prefix_len is_digit t) b t)) ∙ e)
  by false ih e = not_ended n (ends (b ∷ t)) e

pub no_decimal : (s : List ℕ) → ends (drop (prefix_len is_digit s) s) ≡ false → None ≡ decimal_of s
unfolding decimal_of
no_decimal s e = by (is_digit (get_or s 0 0)) where
  by : (d : Bool) → None ≡ cond d (decimal_from 0 s) None
  by true = sym (no_end 0 s e)
  by false = refl

-- at least a digit
pub no_digit : (s : List ℕ) → prefix_len is_digit s ≡ 0 → None ≡ decimal_of s
unfolding decimal_of is_digit
no_digit [] e = refl
no_digit (b ∷ t) e = by (is_digit b) e where
  by : (d : Bool) → cond d (1 + prefix_len is_digit t) 0 ≡ 0 → None ≡ cond d (decimal_from 0 (b ∷ t)) None
  by true e = absurd (omega (arith, e))
  by false e = refl

pub some_digit : (s : List ℕ) → (prefix_len is_digit s ≡ 0 → ⊥) → decimal_of s ≡ decimal_from 0 s
unfolding decimal_of
some_digit s h = rw (prefix_len_passes is_digit s 0 0 (omega (arith, h)))

-- the digits read one further at a time, up to a place behind them
module _ (s : List ℕ) {n : ℕ} (count : n ≡ prefix_len is_digit s) (value i : ℕ) (so_far : decimal_of s ≡ decimal_from value (drop i s)) where
  module _ (h : i < length (take n s)) where
    in_digits : i < n
    in_digits = omega (arith, h, length-take n s)

    is_there : i < length s
    is_there = omega (arith, h, length-take n s)

    digit_here : is_digit (get_or (take n s) i 0) ≡ true
    digit_here = rw (get_or-take n s i 0 in_digits) (prefix_len_passes is_digit s i 0 (omega (arith, in_digits, count)))

    pub from_zero : 48 ≤ get_or (take n s) i 0
    from_zero = (digit_range _ digit_here).0

    further : decimal_of s ≡ decimal_from (grown value (get_or (take n s) i 0)) (drop (i + 1) s)
    further = so_far ∙ rw (get_or-take n s i 0 in_digits) (digit_read value s i is_there (rw (get_or-take n s i 0 in_digits) at digit_here))

    pub one_further : (v : ℕ) → value_of (grown value (get_or (take n s) i 0)) true ≡ Some v
        → (decimal_of s ≡ decimal_from v (drop (i + 1) s)) × (v ≤ 4294967295)
    one_further v e = (further ∙ ap (λ (k : ℕ). decimal_from k (drop (i + 1) s)) (same_value _ v e), small_value _ v e)

    pub too_far : value_of (grown value (get_or (take n s) i 0)) true ≡ None → None ≡ decimal_of s
    too_far e = sym (further ∙ too_large _ (drop (i + 1) s) (above _ e))

  pub all_digits : length (take n s) ≤ i → i ≤ length (take n s) → n ≤ length s → ends (drop n s) ≡ true → value ≤ 4294967295 → Some value ≡ decimal_of s
  all_digits h k fits e small =
      let place : i ≡ n = omega (arith, h, k, fits, length-take n s) in
      sym
      (so_far
      ∙ ap (λ (m : ℕ). decimal_from value (drop m s)) (place ∙ count)
      ∙ digits_over value s
      ∙ ap (λ (m : ℕ). value_of value (ends (drop m s))) (sym count)
      ∙ ap (value_of value) e
      ∙ has_value value small)

-- a value has 32 bits
abbrev pub Small : Option ℕ → Type 0
Small (Some n) = n ≤ 4294967295
Small None = Unit

value_small : (n : ℕ) (ended : Bool) → Small (value_of n ended)
unfolding value_of
value_small n ended = by (leb n 4294967295) refl ended where
  by : (b : Bool) → leb n 4294967295 ≡ b → (ended : Bool) → Small (cond (b && ended) (Some n) None)
  by true e true = leb-true n 4294967295 e
  by true e false = tt
  by false e ended = tt

either : (b : Bool) (x y : Option ℕ) → Small x → Small y → Small (cond b x y)
either true x y s t = s
either false x y s t = t

digits_small : (n : ℕ) (t : List ℕ) → Small (decimal_from n t)
unfolding decimal_from
digits_small n [] = value_small n true
digits_small n (b ∷ t) = either (is_digit b) _ _ (digits_small (grown n b) t) (value_small n (ends (b ∷ t)))

pub decimal_small : (t : List ℕ) → Small (decimal_of t)
unfolding decimal_of
decimal_small t = either (is_digit (get_or t 0 0)) _ _ (digits_small 0 t) tt
