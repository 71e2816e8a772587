-- Displacements of 10 and of 12 bits, as words and as signed numbers: one argument over the width. Assumes nothing.
use mathlib.Core.Path.{◌≡◌, refl, ap, ◌∙◌}
use mathlib.Core.Bool.{false}
use Prim.Native.Nat.{ℕ, suc, ◌+◌, ◌-◌, ◌*◌, ◌%◌, ◌≤◌, ◌<◌}
use native.Mathlib.Omega.{arith}
use native.Mathlib.Decide.{dec_lt}
use lib.Dec.{ltb, lit≤}
use lib.IntN.{ℤ, pos, negsuc}
use lib.Signed.{mag}
use mir.Syntax.{w16}
use mir.ValLaws.{to_z_pos, to_z-neg, to_z-of_z}
use borrow.Author.Tests.{lt-ltb, le-ltb, ltb-false}
use Rattle.isa.specs.Fields.{extended}
use Rattle.forms.specs.Operands.{signed, unsigned, outside}
use Rattle.forms.specs.Theorems.{with_sign}
use Rattle.forms.proofs.Faults.{both_false}

-- what is shown at one width
pub record Laws (half top full : ℕ) : Type 0 where
  pub inside : (d : ℤ) → outside (negsuc top) (pos top) d ≡ false → mag d < half
  pub back : (d : ℤ) → mag d < half → signed (extended half (unsigned d % full)) ≡ d
  pub fits : (v : ℕ) → v < full → extended half v < 65536
  pub low : (v : ℕ) → v < full → extended half v % full ≡ v
  pub signs : (v : ℕ) → v < full → signed (extended half v) ≡ with_sign half v
  pub stays : (v : ℕ) → v < full → outside (negsuc top) (pos top) (signed (extended half v)) ≡ false

-- `top` is half - 1, `full` twice half, and `full` divides 65,536
module _ (half top full : ℕ) (is-top : half ≡ suc top) (is-full : full ≡ 2 * half) (small : half ≤ 32768)
    (low-pos : (n : ℕ) → n < half → n % full ≡ n)
    (low-neg : (n : ℕ) → n < half → (65536 - suc n) % full ≡ full - suc n)
    (low-high : (v : ℕ) → v < full → (v + (65536 - 2 * half)) % full ≡ v) where
  inside : (d : ℤ) → outside (negsuc top) (pos top) d ≡ false → mag d < half
  inside (pos n) e = omega (arith, ltb-false top n e)
  inside (negsuc n) e = omega (arith, ltb-false top n (both_false (ltb top n) false e).0)

  -- a number inside, cut to its low bits, comes back by sign extension
  back : (d : ℤ) → mag d < half → signed (extended half (unsigned d % full)) ≡ d
  back d h = ap signed (word d h) ∙ to_z-of_z w16 d (record { sfits = omega arith })
    where
      word : (d : ℤ) → mag d < half → extended half (unsigned d % full) ≡ unsigned d
      word (pos n) h = rw (low-pos n h, lt-ltb n half h)
      word (negsuc n) h = rw (low-neg n h, le-ltb (full - suc n) half (omega arith)) (omega arith)

  module _ (v : ℕ) (h : v < full) where
    -- a field, sign extended, is a word
    fits : extended half v < 65536
    fits = elim (dec_lt v half) [ yes l ↦ rw (lt-ltb v half l) (omega arith) | no l ↦ rw (le-ltb v half (omega arith)) (omega arith) ]

    -- whose low bits are the field
    low : extended half v % full ≡ v
    low = elim (dec_lt v half) [ yes l ↦ rw (lt-ltb v half l) (low-pos v l) | no l ↦ rw (le-ltb v half (omega arith)) (low-high v h) ]

    -- and which is the field with its sign
    signs : signed (extended half v) ≡ with_sign half v
    signs =
        elim (dec_lt v half) [
          | yes l ↦ rw (lt-ltb v half l) (to_z_pos w16 v (omega arith))
          | no l ↦
              let above : v + (65536 - 2 * half) ≡ 65536 - suc (full - suc v) = omega arith in
              rw (le-ltb v half (omega arith), lt-ltb v (2 * half) (omega arith), above)
              (to_z-neg w16 (full - suc v) (omega arith) ∙ ap negsuc (omega arith))
        ]

    -- so that it is inside
    stays : outside (negsuc top) (pos top) (signed (extended half v)) ≡ false
    stays =
        rw signs
        (elim (dec_lt v half) [
          | yes l ↦ rw (lt-ltb v half l) (le-ltb top v (omega arith))
          | no l ↦
              rw (le-ltb v half (omega arith), lt-ltb v (2 * half) (omega arith), le-ltb top (2 * half - suc v) (omega arith))
        ])

  laws : Laws half top full
  laws = record { inside = inside; back = back; fits = fits; low = low; signs = signs; stays = stays }

pub bits10 : Laws 512 511 1024
bits10 = laws 512 511 1024 refl refl (lit≤ tt) (λ n h. omega arith) (λ n h. omega arith) (λ v h. omega arith)

pub bits12 : Laws 2048 2047 4096
bits12 = laws 2048 2047 4096 refl refl (lit≤ tt) (λ n h. omega arith) (λ n h. omega arith) (λ v h. omega arith)
