-- What document 01 shows is written so; different flags and ends are written differently, and numbers as they are read: seven statements, proved
-- in proofs/Apart.antt, proofs/Digits.antt and proofs/Shown.antt.
use Rattle.std.specs.Prelude.{◌≡◌, Bool, true, false, [], ◌∷◌, ℕ, suc, ◌+◌, ◌≤◌, ◌<◌, ◌^◌, length, get_or}
use Rattle.hexadecimal.specs.Digits.{word_text}
use Rattle.isa.specs.declared.Flags.{Flags}
use Rattle.r8_core.specs.declared.End.{End}
use Rattle.r8_core.specs.declared.End.TheVariants.{H, U, B, M}
use Rattle.text.specs.Decimal.{last_digit, decimal_text, read_after}
use Rattle.text.specs.Text.{flags_text, line_text, letter_text}

-- different ends have different letters; which they are is said by `letter_text` (proved as `letters_apart`)
abbrev pub LettersApart : Type 0
LettersApart = (x y : End) → letter_text x ≡ letter_text y → x ≡ y

-- different flags have different bits; their order is said by `flags_text` (proved as `flags_apart`)
abbrev pub FlagsApart : Type 0
FlagsApart = (x y : Flags) → flags_text x ≡ flags_text y → x ≡ y

-- a number's text is read back as that number, so different numbers have different texts (proved as `decimal_back`)
abbrev pub DecimalBack : Type 0
DecimalBack = (n : ℕ) → read_after 0 (decimal_text n) ≡ n

-- each byte of it is a digit, `0` to `9` (proved as `decimal_digits`)
abbrev pub DecimalDigits : Type 0
DecimalDigits =
    (n i : ℕ) → i < length (decimal_text n) → (48 ≤ get_or (decimal_text n) i 0) × (get_or (decimal_text n) i 0 ≤ 57)

-- it has a digit, and the first is `0` only of the number 0 (proved as `no_leading_zero`)
abbrev pub NoLeadingZero : Type 0
NoLeadingZero = (n : ℕ) → (0 < length (decimal_text n)) × (0 < n → 48 < get_or (decimal_text n) 0 0)

-- and no more digits than it needs (proved as `decimal_at_most`)
abbrev pub DecimalAtMost : Type 0
DecimalAtMost = (n k : ℕ) → n < 10 ^ suc k → length (decimal_text n) ≤ suc k

-- NZCV in this order
abbrev pub nzcv : Bool → Bool → Bool → Bool → Flags
nzcv n z c v = record { n = n; z = z; c = c; v = v }

-- as document 01 shows it: the letters H, U, B, M; NZCV by one flag at a time; the third line of its example, `0002 6105 4 0110` and LF, and its 14
-- cycles; the digits, `ABCDEF` in capitals (proved as `as_shown`)
abbrev pub AsShown : Type 0
AsShown =
    (letter_text H ≡ 0x48)
    × (letter_text U ≡ 0x55)
    × (letter_text B ≡ 0x42)
    × (letter_text M ≡ 0x4D)
    × (flags_text (nzcv true false false false) ≡ 0x31 ∷ 0x30 ∷ 0x30 ∷ 0x30 ∷ [])
    × (flags_text (nzcv false true false false) ≡ 0x30 ∷ 0x31 ∷ 0x30 ∷ 0x30 ∷ [])
    × (flags_text (nzcv false false true false) ≡ 0x30 ∷ 0x30 ∷ 0x31 ∷ 0x30 ∷ [])
    × (flags_text (nzcv false false false true) ≡ 0x30 ∷ 0x30 ∷ 0x30 ∷ 0x31 ∷ [])
    × (line_text 0x0002 0x6105 4 (nzcv false true true false)
    ≡ 0x30 ∷ 0x30 ∷ 0x30 ∷ 0x32 ∷ 0x20 ∷ 0x36 ∷ 0x31 ∷ 0x30 ∷ 0x35 ∷ 0x20 ∷ 0x34 ∷ 0x20 ∷ 0x30 ∷ 0x31 ∷ 0x31 ∷ 0x30 ∷ 0x0A ∷ [])
    × (decimal_text 14 ≡ 0x31 ∷ 0x34 ∷ [])
    × ((d : ℕ) → d < 10 → last_digit d ≡ 0x30 + d)
    × (word_text 0x9ABC ≡ 0x39 ∷ 0x41 ∷ 0x42 ∷ 0x43 ∷ [])
    × (word_text 0xDEF0 ≡ 0x44 ∷ 0x45 ∷ 0x46 ∷ 0x30 ∷ [])
