-- What holds of every listing's lines, of every line, number and comment: eleven statements, proved in proofs/Theorems.antt,
-- proofs/Grammar.antt, proofs/Said.antt, proofs/ReadBack.antt and proofs/CommentBytes.antt.
use Rattle.std.specs.Prelude.{◌≡◌, ◌↔◌, ◌⊎◌, List, [], ◌∷◌, ◌++◌, ℕ, ◌+◌, ◌-◌, ◌*◌, ◌≤◌, ◌<◌, min, length, get_or, take, drop, replicate}
use Rattle.hexadecimal.specs.Digits.{digit_value, word_text}
use Rattle.lines.specs.Lines.{semicolon, lines, find, first_line, number_at, read_line}
use Rattle.lines.specs.Answers.{skipped, entry, refused, line_says, said_by}
use Rattle.lines.specs.Comment.{line_from, comment_text, comment_start}
use Rattle.lines.specs.declared.Line.{Line}
use Rattle.lines.specs.declared.Line.TheVariants.{Blank, Entry}

-- the value of the digit at a place, 16 where there is none
abbrev pub digit_at : List ℕ → ℕ → ℕ
digit_at line i = digit_value (get_or line i 0)

abbrev pub line_at : List ℕ → ℕ → List ℕ
line_at listing i = get_or (lines listing) i []

-- lines one after the other, each with an LF
unfoldable pub joined_lines : List (List ℕ) → List ℕ
joined_lines [] = []
joined_lines (line ∷ rest) = line ++ (10 ∷ joined_lines rest)

-- joined so, the lines are the listing, but for an LF that the last line may lack; and no line holds one (proved as
-- `lines_joined`; that no empty line is added at the end is in the next)
abbrev pub LinesJoined : Type 0
LinesJoined =
    (listing : List ℕ)
    → ((joined_lines (lines listing) ≡ listing) ⊎ (joined_lines (lines listing) ≡ listing ++ (10 ∷ [])))
    × ((i j : ℕ) → get_or (line_at listing i) j 0 ≡ 10 → ⊥)

-- where the line after some lines starts: past their bytes and an LF for each
unfoldable pub start_after : List (List ℕ) → ℕ
start_after [] = 0
start_after (line ∷ rest) = length line + 1 + start_after rest

abbrev pub start_at : List ℕ → ℕ → ℕ
start_at listing i = start_after (take i (lines listing))

-- a line's start lies in the listing, at its front or behind an LF, and the line goes from there to the next LF or the end (proved as
-- `lines_start`)
abbrev pub LinesStart : Type 0
LinesStart =
    (listing : List ℕ) (i : ℕ) → i < length (lines listing)
    → (start_at listing i < length listing) × ((start_at listing i ≡ 0) ⊎ (get_or listing (start_at listing i - 1) 0 ≡ 10))
    × (line_at listing i ≡ first_line (drop (start_at listing i) listing))

-- the number at a place is that of four hexadecimal digits there, the first the highest, and no number where one is none (proved as
-- `number_exactly`)
abbrev pub NumberExactly : Type 0
NumberExactly =
    (line : List ℕ) (i n : ℕ)
    → ((number_at line i ≡ n) × (n < 65536))
    ↔ (((k : ℕ) → k < 4 → digit_at line (i + k) < 16)
    × (n ≡ ((digit_at line i * 16 + digit_at line (i + 1)) * 16 + digit_at line (i + 2)) * 16 + digit_at line (i + 3)))

-- 'four hex digits', and the number that they write
abbrev pub Writes : List ℕ → ℕ → Type 0
Writes digits n = (length digits ≡ 4) × (number_at digits 0 ≡ n) × (n < 65536)

-- 'four hex digits, one space, four hex digits, spaces or none, then nothing or `;` and a comment'
pub record EntryLine (line : List ℕ) (address word : ℕ) : Type 0 where
  pub first : List ℕ
  pub second : List ℕ
  pub spaces : ℕ
  pub rest : List ℕ
  pub writes_address : Writes first address
  pub writes_word : Writes second word
  pub ending : (rest ≡ []) ⊎ ((comment : List ℕ) × (rest ≡ 59 ∷ comment))
  pub whole : line ≡ first ++ (32 ∷ (second ++ (replicate spaces 32 ++ rest)))

-- a line is read as an entry exactly where it is one, with its address and word (proved as `entry_exactly`)
abbrev pub EntryExactly : Type 0
EntryExactly = (line : List ℕ) (address word : ℕ) → (read_line line ≡ Entry address word) ↔ EntryLine line address word

-- and as blank exactly where it is 'of spaces or none' (proved as `blank_exactly`)
abbrev pub BlankExactly : Type 0
BlankExactly = (line : List ℕ) → (read_line line ≡ Blank) ↔ ((spaces : ℕ) × (line ≡ replicate spaces 32))

-- 'this paper's number and values for each of its cases': different answers of the line reader are read differently (proved as
-- `lines_apart`)
abbrev pub LinesApart : Type 0
LinesApart = (x y : Line) → line_says x ≡ line_says y → x ≡ y

-- and they are an entry's address and word, nothing for a line that is skipped, and 2 for a line that is neither (proved as
-- `said_exactly`)
abbrev pub SaidExactly : Type 0
SaidExactly =
    (line : List ℕ)
    → ((address word : ℕ) → (said_by line ≡ entry address word) ↔ EntryLine line address word)
    × ((said_by line ≡ skipped) ↔ ((spaces : ℕ) × (line ≡ replicate spaces 32)))
    × ((said_by line ≡ refused 2)
    ↔ (((address word : ℕ) → EntryLine line address word → ⊥) × ((spaces : ℕ) → line ≡ replicate spaces 32 → ⊥)))

-- what is looked for stands where it is found, if anywhere, and not before; else the place is the end (proved as `find_first`)
abbrev pub FindFirst : Type 0
FindFirst =
    (b : ℕ) (t : List ℕ)
    → (find b t ≤ length t) × (find b t < length t → get_or t (find b t) 0 ≡ b) × ((j : ℕ) → j < find b t → get_or t j 0 ≡ b → ⊥)

-- a comment is what follows the first `;` of the line from the offset on, and starts there; or it is empty, at the end of that line,
-- where there is none (proved as `comment_exactly`)
abbrev pub CommentExactly : Type 0
CommentExactly =
    (listing : List ℕ) (offset : ℕ)
    → ((before text : List ℕ) → line_from listing offset ≡ before ++ (semicolon ∷ text) → ((j : ℕ) → get_or before j 0 ≡ semicolon → ⊥)
    → (comment_text listing offset ≡ text) × (comment_start listing offset ≡ offset + length before + 1))
    × (((j : ℕ) → get_or (line_from listing offset) j 0 ≡ semicolon → ⊥)
    → (comment_text listing offset ≡ [])
    × (comment_start listing offset ≡ min offset (length listing) + length (line_from listing offset)))

-- 'the first `;` from there to the line's end', at place i: a byte 59, and from the offset to it no other and no LF, byte 10
abbrev pub OpensAt : List ℕ → ℕ → ℕ → Type 0
OpensAt listing offset i =
    (offset ≤ i) × (get_or listing i 0 ≡ 59)
    × ((k : ℕ) → offset ≤ k → k < i → (get_or listing k 0 ≡ 59 → ⊥) × (get_or listing k 0 ≡ 10 → ⊥))

-- a text is 'that stretch of the caller's own listing' from a place on, 'up to the line's end without the LF'
abbrev pub StretchFrom : List ℕ → ℕ → List ℕ → Type 0
StretchFrom listing start text =
    (start + length text ≤ length listing)
    × ((j : ℕ) → j < length text → (get_or text j 0 ≡ get_or listing (start + j) 0) × (get_or text j 0 ≡ 10 → ⊥))
    × ((start + length text ≡ length listing) ⊎ (get_or listing (start + length text) 0 ≡ 10))

-- byte by byte: a comment is such a stretch, starts behind that `;`, and is empty where there is none (proved as `comment_bytes`)
abbrev pub CommentBytes : Type 0
CommentBytes =
    (listing : List ℕ) (offset : ℕ)
    → StretchFrom listing (comment_start listing offset) (comment_text listing offset)
    × ((i : ℕ) → OpensAt listing offset i → comment_start listing offset ≡ i + 1)
    × (((i : ℕ) → OpensAt listing offset i → ⊥) → comment_text listing offset ≡ [])

-- a word in its four digits is read back (proved as `word_read_back`)
abbrev pub WordReadBack : Type 0
WordReadBack = (w : ℕ) → w < 65536 → number_at (word_text w) 0 ≡ w
