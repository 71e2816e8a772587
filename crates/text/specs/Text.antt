-- Document 01: 'NZCV is written as four bits', and the lines of `r8trace`: 'address, word, cycles, NZCV after', as its example has them.
-- Texts are lists of bytes in ASCII.
use Rattle.std.specs.Prelude.{Bool, true, false, List, [], ◌∷◌, ◌++◌, ℕ}
use Rattle.hexadecimal.specs.Digits.{word_text}
use Rattle.isa.specs.declared.Flags.{Flags}
use Rattle.r8_core.specs.declared.End.{End}
use Rattle.r8_core.specs.declared.End.TheVariants.{H, U, B, M}
use Rattle.text.specs.Decimal.{last_digit}

abbrev pub bit_text : Bool → ℕ
bit_text true = 49
bit_text false = 48

abbrev pub flags_text : Flags → List ℕ
flags_text f = bit_text f.n ∷ bit_text f.z ∷ bit_text f.c ∷ bit_text f.v ∷ []

-- a space is 32, and LF, which ends a line, 10
abbrev pub line_text : ℕ → ℕ → ℕ → Flags → List ℕ
line_text address word cycles flags =
    word_text address ++ (32 ∷ word_text word) ++ (32 ∷ last_digit cycles ∷ 32 ∷ flags_text flags) ++ (10 ∷ [])

abbrev pub letter_text : End → ℕ
letter_text H = 72
letter_text U = 85
letter_text B = 66
letter_text M = 77
