-- Document 01, 'Words and addresses are .. written as four hexadecimal digits', and 'Listing': 'four hex digits (either case)'; document 02,
-- note 4: 'Compute the value from the byte's ranges'. Texts are lists of bytes in ASCII.
use Rattle.std.specs.Prelude.{Bool, cond, ◌&&◌, List, [], ◌∷◌, ℕ, ◌+◌, ◌-◌, ◌/◌, ◌%◌, ltb, leb}

abbrev pub within : ℕ → ℕ → ℕ → Bool
within low high b = leb low b && leb b high

-- the value of a byte as a hexadecimal digit, 0 to 9, A to F, a to f; 16 where it is none
unfoldable pub digit_value : ℕ → ℕ
digit_value b =
    cond (within 0x30 0x39 b) (b - 0x30)
    (cond (within 0x41 0x46 b) (b - 0x41 + 10)
    (cond (within 0x61 0x66 b) (b - 0x61 + 10) 16))

-- the last hexadecimal digit of a number, in capitals, as document 01's example and document 02, note 1, have them: `0` is 48, `A` is 65
abbrev pub hex_digit : ℕ → ℕ
hex_digit n = cond (ltb (n % 16) 10) (48 + n % 16) (55 + n % 16)

-- a word in four digits
abbrev pub word_text : ℕ → List ℕ
word_text w = hex_digit (w / 4096) ∷ hex_digit (w / 256) ∷ hex_digit (w / 16) ∷ hex_digit w ∷ []
