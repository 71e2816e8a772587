-- The theorems of specs/Theorems.antt. Assumes nothing.
use mathlib.Core.Path.{◌≡◌, refl, ◌∙◌}
use mathlib.Core.Logic.{◌⊎◌, inl, inr, ⊎_elim}
use mathlib.Core.Bool.{Bool, true, false}
use Prim.Native.Nat.{ℕ, ◌+◌, ◌%◌, ◌≤◌, ◌<◌}
use native.Mathlib.Decide.{dec_lt}
use native.Mathlib.Omega.{arith}
use borrow.Author.Tests.{ltb-true, ltb-false}
use lib.Dec.{ltb}
use Rattle.hexadecimal.specs.Digits.{digit_value, hex_digit}
use Rattle.hexadecimal.specs.Theorems.{DigitExactly, DigitReadBack}
use Rattle.hexadecimal.proofs.Values.{Outside, decimal, capital, small, no_digit}

-- inside a range, or outside it
ranged : (low high b : ℕ) → ((low ≤ b) × (b ≤ high)) ⊎ Outside low high b
ranged low high b = elim (dec_lt b low) [
  | yes l ↦ inr (inl l)
  | no l ↦ elim (dec_lt high b) [ yes h ↦ inr (inr h) | no h ↦ inl (omega arith, omega arith) ]
]

Digit : ℕ → ℕ → Type 0
Digit b n = ((n < 10) × (b ≡ 0x30 + n)) ⊎ ((10 ≤ n) × (n < 16) × ((b + 10 ≡ 0x41 + n) ⊎ (b + 10 ≡ 0x61 + n)))

is_digit_lem : (b n : ℕ) → digit_value b ≡ n → n < 16 → Digit b n
unfolding Digit
is_digit_lem b n e h =
    ⊎_elim (λ p. let v = decimal b p.0 p.1 in inl (omega (arith, e, v, p), omega (arith, e, v, p)))
    (λ p. ⊎_elim (λ q. let v = capital b q.0 q.1 in inr (omega (arith, e, v), h, inl (omega (arith, e, v, q))))
    (λ q. ⊎_elim (λ r. let v = small b r.0 r.1 in inr (omega (arith, e, v), h, inr (omega (arith, e, v, r))))
    (λ r. absurd (omega (arith, e, h, no_digit b p q r)))
    (ranged 0x61 0x66 b))
    (ranged 0x41 0x46 b))
    (ranged 0x30 0x39 b)

has_value : (b n : ℕ) → Digit b n → digit_value b ≡ n
unfolding Digit
has_value b n (inl d) = decimal b (omega (arith, d)) (omega (arith, d)) ∙ omega (arith, d)
has_value b n (inr d) =
    ⊎_elim
    (λ u. capital b (omega (arith, d, u)) (omega (arith, d, u)) ∙ omega (arith, d, u))
    (λ u. small b (omega (arith, d, u)) (omega (arith, d, u)) ∙ omega (arith, d, u))
    d.2

below : (b n : ℕ) → Digit b n → n < 16
unfolding Digit
below b n (inl d) = omega (arith, d)
below b n (inr d) = d.1

pub digit_exactly : DigitExactly
unfolding Digit
digit_exactly b n = (λ p. is_digit_lem b n p.0 p.1, λ d. (has_value b n d, below b n d))

pub digit_read_back : DigitReadBack
digit_read_back n = by (ltb (n % 16) 10) refl
  where
    by : (low : Bool) → ltb (n % 16) 10 ≡ low → digit_value (hex_digit n) ≡ n % 16
    by true e = let h = ltb-true (n % 16) 10 e in rw e (decimal (48 + n % 16) (omega arith) (omega (arith, h)) ∙ omega arith)
    by false e =
        let h = ltb-false (n % 16) 10 e in rw e (capital (55 + n % 16) (omega (arith, h)) (omega arith) ∙ omega (arith, h))
