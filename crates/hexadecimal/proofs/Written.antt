-- The theorem `DigitWritten` of specs/Theorems.antt: by the value of the digit. Assumes nothing.
use mathlib.Core.Bool.{cond}
use Prim.Native.Nat.{ℕ, ◌+◌, ◌%◌}
use native.Mathlib.Omega.{arith}
use lib.Dec.{ltb}
use Rattle.hexadecimal.specs.Theorems.{capitals, DigitWritten}
use Rattle.hexadecimal.proofs.Tables.{at}

-- the digit of a value
abbrev digit_of : ℕ → ℕ
digit_of v = cond (ltb v 10) (48 + v) (55 + v)

pub digit_written : DigitWritten
unfolding capitals
digit_written n = at digit_of capitals tt (n % 16) 0 (omega arith)
