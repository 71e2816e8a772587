-- The theorem `AsShown` of specs/Theorems.antt: it computes. Assumes nothing.
use mathlib.Core.Path.{refl}
use native.Mathlib.Omega.{arith}
use Rattle.text.specs.Decimal.{decimal_in, decimal_text}
use Rattle.text.specs.Theorems.{AsShown}

pub as_shown : AsShown
unfolding decimal_in decimal_text
as_shown = (refl, refl, refl, refl, refl, refl, refl, refl, refl, refl, λ d h. omega arith, refl, refl)
