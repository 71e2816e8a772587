-- The theorems of specs/Theorems.antt on decimal text, and the laws that its code goes by: a digit more at a time, from the last.
use mathlib.Core.Path.{◌≡◌, refl, ap, ◌∙◌}
use mathlib.Core.Bool.{Bool, true, false, cond}
use mathlib.Core.List.{List, [], ◌∷◌, ◌++◌, append_assoc}
use Prim.Native.Nat.{ℕ, zero, suc, ◌+◌, ◌-◌, ◌*◌, ◌/◌, ◌^◌, ◌≤◌, ◌<◌}
use native.Mathlib.Nat.{div-lt_iff_lt-mul, pow-suc, mod-eq_of_lt}
use native.Mathlib.Omega.{arith}
use borrow.Author.Tests.{ltb-true, ltb-false, lt-ltb, le-ltb}
use lib.Dec.{ltb}
use lib.ListN.{length, take, drop, get_or, set, replicate, length-append, length-replicate, get_or-append}
use lib.Seq.{take_all, drop_at}
use Rattle.text.specs.Decimal.{last_digit, decimal_in, decimal_text, at_end, read_after}
use Rattle.text.specs.Theorems.{DecimalBack, DecimalDigits, NoLeadingZero, DecimalAtMost}

-- more room gives no more digits
same : (j k n : ℕ) → n < j → n < k → decimal_in j n ≡ decimal_in k n
unfolding decimal_in
same zero k n x y = absurd (omega arith)
same (suc j) zero n x y = absurd (omega arith)
same (suc j) (suc k) n x y = by (ltb n 10) refl (λ large. same j k (n / 10) (omega arith) (omega arith))
  where
    by : (b : Bool) → ltb n 10 ≡ b → (10 ≤ n → decimal_in j (n / 10) ≡ decimal_in k (n / 10))
        → cond b (last_digit n ∷ []) (decimal_in j (n / 10) ++ (last_digit n ∷ []))
        ≡ cond b (last_digit n ∷ []) (decimal_in k (n / 10) ++ (last_digit n ∷ []))
    by true e tenth = refl
    by false e tenth = ap (λ (l : List ℕ). l ++ (last_digit n ∷ [])) (tenth (ltb-false n 10 e))

pub one_digit : (n : ℕ) → n < 10 → decimal_text n ≡ last_digit n ∷ []
unfolding decimal_text decimal_in
one_digit n small = rw (lt-ltb n 10 small)

pub digit_more : (n : ℕ) → 10 ≤ n → decimal_text n ≡ decimal_text (n / 10) ++ (last_digit n ∷ [])
unfolding decimal_text decimal_in
digit_more n large =
    rw (le-ltb n 10 large) (ap (λ (l : List ℕ). l ++ (last_digit n ∷ [])) (same n (suc (n / 10)) (n / 10) (omega arith) (omega arith)))

-- what holds of one digit, and of each digit more, holds of every number
module _ (P : ℕ → List ℕ → Type 0) (one : (n : ℕ) → n < 10 → P n (last_digit n ∷ []))
    (more : (n : ℕ) (l : List ℕ) → 10 ≤ n → P (n / 10) l → P n (l ++ (last_digit n ∷ []))) where
  within : (k n : ℕ) → n < k → P n (decimal_text n)
  within zero n few = absurd (omega arith)
  within (suc k) n few = by (ltb n 10) refl (λ large. within k (n / 10) (omega arith))
    where
      by : (b : Bool) → ltb n 10 ≡ b → (10 ≤ n → P (n / 10) (decimal_text (n / 10))) → P n (decimal_text n)
      by true e tenth = rw (one_digit n (ltb-true n 10 e)) (one n (ltb-true n 10 e))
      by false e tenth =
          let large = ltb-false n 10 e in rw (digit_more n large) (more n (decimal_text (n / 10)) large (tenth large))

  by_digits : (n : ℕ) → P n (decimal_text n)
  by_digits n = within (suc n) n (omega arith)

read_both : (n : ℕ) (some others : List ℕ) → read_after n (some ++ others) ≡ read_after (read_after n some) others
unfolding read_after
read_both n [] others = refl
read_both n (byte ∷ some) others = read_both (10 * n + (byte - 48)) some others

pub decimal_back : DecimalBack
unfolding read_after
decimal_back =
    by_digits (λ n l. read_after 0 l ≡ n) (λ n small. omega (arith, mod-eq_of_lt small))
    (λ n l large back. rw (read_both 0 l (last_digit n ∷ []), back) (omega arith))

pub decimal_digits : DecimalDigits
decimal_digits =
    by_digits (λ n l. (i : ℕ) → i < length l → (48 ≤ get_or l i 0) × (get_or l i 0 ≤ 57)) (λ n small. one n) more
  where
    one : (n i : ℕ) → i < 1 → (48 ≤ get_or (last_digit n ∷ []) i 0) × (get_or (last_digit n ∷ []) i 0 ≤ 57)
    one n zero few = (omega arith, omega arith)
    one n (suc i) few = absurd (omega arith)

    more : (n : ℕ) (l : List ℕ) → 10 ≤ n → ((i : ℕ) → i < length l → (48 ≤ get_or l i 0) × (get_or l i 0 ≤ 57))
        → (i : ℕ) → i < length (l ++ (last_digit n ∷ []))
        → (48 ≤ get_or (l ++ (last_digit n ∷ [])) i 0) × (get_or (l ++ (last_digit n ∷ [])) i 0 ≤ 57)
    more n [] large all i few = one n i few
    more n (byte ∷ l) large all zero few = all 0 (omega arith)
    more n (byte ∷ l) large all (suc i) few = more n l large (λ k h. all (suc k) (omega arith)) i (omega arith)

pub no_leading_zero : NoLeadingZero
no_leading_zero =
    by_digits (λ n l. (0 < length l) × (0 < n → 48 < get_or l 0 0)) (λ n small. (omega arith, λ some. omega (arith, mod-eq_of_lt small)))
    (λ n l large first. (
      rw (length-append l (last_digit n ∷ [])) (omega arith),
      λ some. rw (get_or-append l (last_digit n ∷ []) 0 0 first.0) (first.1 (omega arith)),
    ))

pub decimal_at_most : DecimalAtMost
decimal_at_most = by_digits (λ n l. (k : ℕ) → n < 10 ^ suc k → length l ≤ suc k) (λ n small k low. omega arith) more
  where
    more : (n : ℕ) (l : List ℕ) → 10 ≤ n → ((k : ℕ) → n / 10 < 10 ^ suc k → length l ≤ suc k)
        → (k : ℕ) → n < 10 ^ suc k → length (l ++ (last_digit n ∷ [])) ≤ suc k
    more n l large few zero low = absurd (omega arith)
    more n l large few (suc k) low =
        rw (length-append l (last_digit n ∷ []))
        (omega (arith, few k ((div-lt_iff_lt-mul {k = 10} {x = n} {y = 10 ^ suc k} (omega arith)).1 (rw (pow-suc 10 (suc k)) at low))))

-- a number's digits are all at the end of 20 bytes
module _ (n : ℕ) (low : n < 10 ^ 20) where
  few : length (decimal_text n) ≤ 20
  few = decimal_at_most n 19 low

  pub end_length : length (at_end (decimal_text n)).digits ≡ 20
  end_length =
      rw (length-append (replicate (20 - length (decimal_text n)) 32) (decimal_text n), length-replicate {A = ℕ} (20 - length (decimal_text n)) 32)
      (omega (arith, few))

  pub end_text : take (20 - (at_end (decimal_text n)).start) (drop (at_end (decimal_text n)).start (at_end (decimal_text n)).digits) ≡ decimal_text n
  end_text =
      let start = 20 - length (decimal_text n) in
      ap (take (20 - start)) (drop_at (replicate start 32) (decimal_text n) start (length-replicate {A = ℕ} start 32))
      ∙ take_all (20 - start) (decimal_text n) (omega (arith, few))

-- digits under way: those put stand at the end of 20 bytes, and those of the rest come before them
pub record Put (whole digits : List ℕ) (start rest : ℕ) : Type 0 where
  pub last : List ℕ
  pub text : whole ≡ decimal_text rest ++ last
  pub bytes : digits ≡ replicate start 32 ++ last
  pub size : start + length last ≡ 20
  pub some : 0 < start
  pub low : rest < 10 ^ start

stored : (s digit : ℕ) (last : List ℕ) → set (replicate (suc s) 32 ++ last) s digit ≡ replicate s 32 ++ digit ∷ last
stored zero digit last = refl
stored (suc s) digit last = ap (λ (l : List ℕ). 32 ∷ l) (stored s digit last)

module _ (whole digits : List ℕ) (rest digit : ℕ) (e : digit ≡ last_digit rest) where
  -- the first digit is put last
  pub put_first : (start : ℕ) → Put whole digits start rest → rest < 10
      → record { digits = set digits (start - 1) digit; start = start - 1 } ≡ at_end whole
  put_first zero h small = absurd (omega (arith, h.some))
  put_first (suc s) h small =
      let text : whole ≡ last_digit rest ∷ h.last = h.text ∙ rw (one_digit rest small) in
      let less : suc s - 1 ≡ s = omega arith in
      let start : 20 - length whole ≡ s = omega (arith, ap length text, h.size) in
      let bytes : set digits s digit ≡ replicate s 32 ++ whole = rw (h.bytes, text, e) (stored s (last_digit rest) h.last) in
      rw (less, start, bytes)

  -- another
  pub put_other : (start : ℕ) → Put whole digits start rest → 10 ≤ rest → Put whole (set digits (start - 1) digit) (start - 1) (rest / 10)
  put_other zero h large = absurd (omega (arith, h.some))
  put_other (suc zero) h large = absurd (omega (arith, h.low))
  put_other (suc (suc s)) h large =
      let less : suc (suc s) - 1 ≡ suc s = omega arith in
      let low = h.low in
      rw less record {
        last = digit ∷ h.last;
        text = h.text ∙ rw (digit_more rest large, e) (append_assoc (decimal_text (rest / 10)) (last_digit rest ∷ []) h.last);
        bytes = rw h.bytes (stored (suc s) digit h.last);
        size = omega (arith, h.size);
        some = omega arith;
        low = (div-lt_iff_lt-mul {k = 10} {x = rest} {y = 10 ^ suc s} (omega arith)).1 (rw (pow-suc 10 (suc s)) at low);
      }
