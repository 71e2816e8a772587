-- Document 01, 'Listing': what a line is, and what it says. A listing is the list of its bytes.
use Rattle.std.specs.Prelude.{Bool, true, false, cond, ◌&&◌, List, [], ◌∷◌, ℕ, suc, ◌+◌, ◌*◌, eqb, ltb, get_or, take, drop}
use Rattle.hexadecimal.specs.Digits.{digit_value}
use Rattle.lines.specs.declared.Line.{Line}
use Rattle.lines.specs.declared.Line.TheVariants.{Blank, Entry, IllFormed}

abbrev pub line_feed : ℕ
line_feed = 10

abbrev pub space : ℕ
space = 32

abbrev pub semicolon : ℕ
semicolon = 59

-- a byte before a line, or before the end of input
abbrev pub prepend : ℕ → List (List ℕ) → List (List ℕ)
prepend b [] = (b ∷ []) ∷ []
prepend b (line ∷ rest) = (b ∷ line) ∷ rest

-- the lines, each 'ended by LF or the end of input', without the LF
unfoldable pub lines : List ℕ → List (List ℕ)
lines [] = []
lines (b ∷ t) = cond (eqb b line_feed) ([] ∷ lines t) (prepend b (lines t))

-- the place of the first byte b; the length where there is none
unfoldable pub find : ℕ → List ℕ → ℕ
find b [] = 0
find b (x ∷ t) = cond (eqb x b) 0 (suc (find b t))

-- the line at the front: up to the first LF, or the end of input
abbrev pub first_line : List ℕ → List ℕ
first_line t = take (find line_feed t) t

-- what follows the spaces at the front
unfoldable pub after_spaces : List ℕ → List ℕ
after_spaces [] = []
after_spaces (b ∷ t) = cond (eqb b space) (after_spaces t) (b ∷ t)

abbrev pub is_empty : List ℕ → Bool
is_empty [] = true
is_empty (b ∷ t) = false

-- 'nothing or `;` and a comment'
abbrev pub nothing_or_comment : List ℕ → Bool
nothing_or_comment [] = true
nothing_or_comment (b ∷ t) = eqb b semicolon

-- 'spaces or none, then nothing or `;` and a comment'
abbrev pub ends : List ℕ → Bool
ends t = nothing_or_comment (after_spaces t)

-- the byte at a place of a line; 0, which is neither a digit nor a space, past its end
abbrev pub byte_at : List ℕ → ℕ → ℕ
byte_at line i = get_or line i 0

-- the number that four digit values write; 65,536 where one of them is no digit's
unfoldable pub four_digits : ℕ → ℕ → ℕ → ℕ → ℕ
four_digits a b c d = cond (ltb a 16 && ltb b 16 && ltb c 16 && ltb d 16) (a * 4096 + b * 256 + c * 16 + d) 65536

-- the number that 'four hex digits' from a place on write; 65,536 where one of the bytes is no digit
unfoldable pub number_at : List ℕ → ℕ → ℕ
number_at line i =
    four_digits (digit_value (byte_at line i)) (digit_value (byte_at line (i + 1))) (digit_value (byte_at line (i + 2)))
    (digit_value (byte_at line (i + 3)))

-- an entry: its numbers, the byte between them a space, and its end as it should be
unfoldable pub entry_from : ℕ → ℕ → ℕ → Bool → Line
entry_from address between word ended =
    cond (ltb address 65536 && eqb between space && ltb word 65536 && ended) (Entry address word) IllFormed

-- 'four hex digits, one space, four hex digits, spaces or none, then nothing or `;` and a comment': at places 0 to 3, 4, 5 to 8, and
-- from 9 on
unfoldable pub entry_of : List ℕ → Line
entry_of line = entry_from (number_at line 0) (byte_at line 4) (number_at line 5) (ends (drop 9 line))

-- 'A line of spaces or none is skipped'
unfoldable pub read_line : List ℕ → Line
read_line line = cond (is_empty (after_spaces line)) Blank (entry_of line)
