-- The theorem of specs/Former.antt, by one test that is computed over the whole table. Assumes nothing.
use mathlib.Core.Path.{refl}
use Rattle.hexadecimal.specs.Digits.{digit_value}
use Rattle.hexadecimal.specs.Former.{former, DigitsKept}
use Rattle.hexadecimal.proofs.Tables.{at}

pub digits_kept : DigitsKept
unfolding digit_value former
digits_kept = (refl, λ b h. at digit_value former tt b 0 h)
