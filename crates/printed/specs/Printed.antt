-- Document 01, 'Proof bench', program `r8trace`: what it writes of a listing. Texts are lists of bytes in ASCII; LF, which ends a line, is 10.
use Rattle.std.specs.Prelude.{List, [], ◌∷◌, ◌++◌, ℕ, zero, suc, get_or, drop, replicate}
use Rattle.r8_core.specs.Calls.{Answer, done, stored, ran, viewed, refused, refused_at}
use Rattle.text.specs.Decimal.{decimal_text}
use Rattle.text.specs.Text.{line_text, letter_text}
use Rattle.layout.specs.Layout.{flags_of}
use Rattle.trace.specs.Trace.{Finding, Trace, answered, too_long, no_room, traced}
use Rattle.output.specs.Page.{totals_text}

-- 'address, word, cycles, NZCV after', of a row of four numbers
abbrev pub row_text : List ℕ → List ℕ
row_text rows = line_text (get_or rows 0 0) (get_or rows 1 0) (get_or rows 2 0) (flags_of (get_or rows 3 0))

-- 'A line per finished instruction', of which there are so many
unfoldable pub lines_text : ℕ → List ℕ → List ℕ
lines_text zero rows = []
lines_text (suc n) rows = row_text rows ++ lines_text n (drop 4 rows)

-- 'only `refused N at offset`': `refused ` and ` at `, each with its number
abbrev pub refused_text : ℕ → ℕ → List ℕ
refused_text number offset =
    ((114 ∷ 101 ∷ 102 ∷ 117 ∷ 115 ∷ 101 ∷ 100 ∷ 32 ∷ []) ++ decimal_text number)
    ++ ((32 ∷ 97 ∷ 116 ∷ 32 ∷ []) ++ decimal_text offset)
    ++ (10 ∷ [])

-- 'Then totals (used cycles, finished instructions) and end letter'. A trace has no answer but these two
abbrev pub answer_text : Answer → List ℕ → List ℕ
answer_text (ran used finished end) rows = lines_text finished rows ++ (totals_text used finished (letter_text end) ++ (10 ∷ []))
answer_text (refused_at number offset) rows = refused_text number offset
answer_text done rows = []
answer_text (stored count) rows = []
answer_text (viewed v due clock) rows = []
answer_text (refused number) rows = []

-- '`too long` otherwise'; that room lacks for the rows does not arise (`RoomAlways` of `trace`)
abbrev pub finding_text : Finding → List ℕ → List ℕ
finding_text (answered answer) rows = answer_text answer rows
finding_text too_long rows = 116 ∷ 111 ∷ 111 ∷ 32 ∷ 108 ∷ 111 ∷ 110 ∷ 103 ∷ 10 ∷ []
finding_text no_room rows = []

-- what is written of a listing: its trace, with room for the 500 rows that 1,000 cycles have at most
unfoldable pub printed_trace : List ℕ → List ℕ
printed_trace listing =
    let found : Trace = traced listing (replicate 2000 0) in
    finding_text found.finding found.rows
