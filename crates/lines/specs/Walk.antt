-- The iterator over the lines of a listing: what each says, with the offset of its start.
use Rattle.std.specs.Prelude.{List, [], ◌∷◌, ℕ, ◌+◌, length, drop}
use Rattle.lines.specs.Lines.{lines, read_line}
use Rattle.lines.specs.declared.Line.{Line}
use Rattle.lines.specs.declared.walk.Lines.{Lines}

-- lines of which the first starts at an offset; the next starts past a line and its LF
unfoldable pub read_lines : ℕ → List (List ℕ) → List (ℕ × Line)
read_lines offset [] = []
read_lines offset (line ∷ rest) = (offset, read_line line) ∷ read_lines (offset + (length line + 1)) rest

-- those that are left
abbrev pub lines_left : Lines → List (ℕ × Line)
lines_left s = read_lines s.offset (lines (drop s.offset s.listing.now))
