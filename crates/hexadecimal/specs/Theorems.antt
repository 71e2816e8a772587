-- What the digits are, which are written, and that a digit written is read back: three statements, proved in proofs/Theorems.antt and
-- proofs/Written.antt.
use Rattle.std.specs.Prelude.{◌≡◌, ◌↔◌, ◌⊎◌, List, [], ◌∷◌, ℕ, ◌+◌, ◌%◌, ◌≤◌, ◌<◌, get_or}
use Rattle.hexadecimal.specs.Digits.{digit_value, hex_digit}

-- a byte has the value n below 16 exactly where it is the n-th of 0 to 9, or the (n - 10)-th of A to F or of a to f (proved as
-- `digit_exactly`)
abbrev pub DigitExactly : Type 0
DigitExactly =
    (b n : ℕ)
    → ((digit_value b ≡ n) × (n < 16))
    ↔ (((n < 10) × (b ≡ 0x30 + n)) ⊎ ((10 ≤ n) × (n < 16) × ((b + 10 ≡ 0x41 + n) ⊎ (b + 10 ≡ 0x61 + n))))

-- 0 to 9 and A to F, in ASCII
unfoldable pub capitals : List ℕ
capitals = 48 ∷ 49 ∷ 50 ∷ 51 ∷ 52 ∷ 53 ∷ 54 ∷ 55 ∷ 56 ∷ 57 ∷ 65 ∷ 66 ∷ 67 ∷ 68 ∷ 69 ∷ 70 ∷ []

-- the digit that is written is one of these, by its value (proved as `digit_written`)
abbrev pub DigitWritten : Type 0
DigitWritten = (n : ℕ) → hex_digit n ≡ get_or capitals (n % 16) 0

-- the digit that is written has the value that it was written for (proved as `digit_read_back`)
abbrev pub DigitReadBack : Type 0
DigitReadBack = (n : ℕ) → digit_value (hex_digit n) ≡ n % 16
