-- V by the signed result is V by the bits 15.
use mathlib.Core.Path.{◌≡◌, refl, sym, ap, ◌∙◌}
use mathlib.Core.Bool.{Bool, true, false, not, cond, ◌||◌}
use Prim.Native.Nat.{ℕ, zero, suc, ◌+◌, ◌-◌, ◌≤◌, ◌<◌}
use native.Mathlib.Omega.{arith}
use lib.Dec.{ltb, leb}
use lib.IntN.{pos, negsuc, sub_ℕ, ◌+ℤ◌, ◌-ℤ◌}
use borrow.Author.Tests.{leb-true, leb-false, le-ltb, lt-ltb, le-leb, lt-leb}
use Rattle.alu.specs.Flags.{bit15, sum_overflows, difference_overflows}
use Rattle.reference.specs.Notation.{◌⊕◌, ◌⊖◌, signed, outside}

-- a word by its bit 15
signed_low : (w : ℕ) → w < 32768 → signed w ≡ pos w
signed_low w h = rw (lt-ltb w 32768 h)

signed_high : (w : ℕ) → 32768 ≤ w → w < 65536 → signed w ≡ negsuc (65535 - w)
signed_high w h l = rw (le-ltb w 32768 h, lt-ltb w 65536 l) (ap negsuc (omega arith))

-- a number is outside where its size says so
or_false : (t : Bool) → (t || false) ≡ t
or_false true = refl
or_false false = refl

out_low : (n : ℕ) → outside (negsuc n) ≡ leb 32768 n
out_low n = or_false (leb 32768 n)

in_range : (m n : ℕ) → m ≤ n + 32767 → n ≤ m + 32768 → false ≡ outside (sub_ℕ m n)
in_range m n hm hn = by (ltb m n) refl
  where
    by : (t : Bool) → ltb m n ≡ t → false ≡ outside (cond t (negsuc (n - suc m)) (pos (m - n)))
    by true e = sym (out_low (n - suc m) ∙ lt-leb 32768 (n - suc m) (omega arith))
    by false e = sym (lt-leb 32768 (m - n) (omega arith))

-- two tests of bit 15 that say the same, and that say the opposite
alike : (x y : ℕ) → (32768 ≤ x → 32768 ≤ y) → (x < 32768 → y < 32768) → leb 32768 x ≡ leb 32768 y
alike x y f g = by (leb 32768 x) refl
  where
    by : (t : Bool) → leb 32768 x ≡ t → t ≡ leb 32768 y
    by true e = sym (le-leb 32768 y (f (leb-true 32768 x e)))
    by false e = sym (lt-leb 32768 y (g (leb-false 32768 x e)))

unlike : (x y : ℕ) → (32768 ≤ x → y < 32768) → (x < 32768 → 32768 ≤ y) → not (leb 32768 x) ≡ leb 32768 y
unlike x y f g = by (leb 32768 x) refl
  where
    by : (t : Bool) → leb 32768 x ≡ t → not t ≡ leb 32768 y
    by true e = sym (lt-leb 32768 y (f (leb-true 32768 x e)))
    by false e = sym (le-leb 32768 y (g (leb-false 32768 x e)))

module _ (p q : ℕ) (hp : p < 65536) (hq : q < 65536) where
  sum_by : (s t : Bool) → bit15 p ≡ s → bit15 q ≡ t → sum_overflows s t (bit15 (p ⊕ q)) ≡ outside (signed p +ℤ signed q)
  sum_by false false ep eq =
      let lp = leb-false 32768 p ep in
      let lq = leb-false 32768 q eq in
      rw (signed_low p lp, signed_low q lq) (alike (p ⊕ q) (p + q) (λ h. omega arith) (λ h. omega arith))
  sum_by false true ep eq =
      let lp = leb-false 32768 p ep in
      let hq' = leb-true 32768 q eq in
      rw (signed_low p lp, signed_high q hq' hq) (in_range p (suc (65535 - q)) (omega arith) (omega arith))
  sum_by true false ep eq =
      let hp' = leb-true 32768 p ep in
      let lq = leb-false 32768 q eq in
      rw (signed_high p hp' hp, signed_low q lq) (in_range q (suc (65535 - p)) (omega arith) (omega arith))
  sum_by true true ep eq =
      let hp' = leb-true 32768 p ep in
      let hq' = leb-true 32768 q eq in
      rw (signed_high p hp' hp, signed_high q hq' hq)
      (unlike (p ⊕ q) (suc ((65535 - p) + (65535 - q))) (λ h. omega arith) (λ h. omega arith)
      ∙ sym (out_low (suc ((65535 - p) + (65535 - q)))))

  pub sum_overflows_lem : sum_overflows (bit15 p) (bit15 q) (bit15 (p ⊕ q)) ≡ outside (signed p +ℤ signed q)
  sum_overflows_lem = sum_by (bit15 p) (bit15 q) refl refl

  -- p less a number that is not negative, by whether that is zero
  less : (m : ℕ) → m ≡ q → (t : Bool) → bit15 p ≡ t → m < 32768
      → difference_overflows t false (bit15 (p ⊖ q)) ≡ outside (signed p -ℤ pos m)
  less zero e false ep l =
      let lp = leb-false 32768 p ep in
      rw (signed_low p lp) (sym (lt-leb 32768 (p + 0) (omega arith)))
  less (suc m) e false ep l =
      let lp = leb-false 32768 p ep in
      rw (signed_low p lp) (in_range p (suc m) (omega arith) (omega arith))
  less zero e true ep l =
      let hp' = leb-true 32768 p ep in
      rw (signed_high p hp' hp)
      (ap not (le-leb 32768 (p ⊖ q) (omega (arith, e))) ∙ in_range 0 (suc (65535 - p)) (omega arith) (omega arith))
  less (suc m) e true ep l =
      let hp' = leb-true 32768 p ep in
      rw (signed_high p hp' hp)
      (unlike (p ⊖ q) (suc ((65535 - p) + m)) (λ h. omega (arith, e)) (λ h. omega (arith, e))
      ∙ sym (out_low (suc ((65535 - p) + m))))

  difference_by : (s t : Bool) → bit15 p ≡ s → bit15 q ≡ t
      → difference_overflows s t (bit15 (p ⊖ q)) ≡ outside (signed p -ℤ signed q)
  difference_by s false ep eq =
      let lq = leb-false 32768 q eq in
      rw (signed_low q lq) (less q refl s ep lq)
  difference_by false true ep eq =
      let lp = leb-false 32768 p ep in
      let hq' = leb-true 32768 q eq in
      rw (signed_low p lp, signed_high q hq' hq)
      (alike (p ⊖ q) (p + suc (65535 - q)) (λ h. omega arith) (λ h. omega arith))
  difference_by true true ep eq =
      let hp' = leb-true 32768 p ep in
      let hq' = leb-true 32768 q eq in
      rw (signed_high p hp' hp, signed_high q hq' hq) (in_range (suc (65535 - q)) (suc (65535 - p)) (omega arith) (omega arith))

  pub difference_overflows_lem : difference_overflows (bit15 p) (bit15 q) (bit15 (p ⊖ q)) ≡ outside (signed p -ℤ signed q)
  difference_overflows_lem = difference_by (bit15 p) (bit15 q) refl refl
