-- Document 01, 'Listing' and 'Numbers from the input': what the line reader answers, by number and values for each case.
use Rattle.std.specs.Prelude.{List, ℕ}
use Rattle.lines.specs.Lines.{read_line}
use Rattle.lines.specs.declared.Line.{Line}
use Rattle.lines.specs.declared.Line.TheVariants.{Blank, Entry, IllFormed}

-- a line is skipped; or has an address and a word; or is refused, with a number
pub data Said : Type 0 where
  skipped : Said
  entry : ℕ → ℕ → Said
  refused : ℕ → Said

-- '2: line ill-formed'
abbrev pub line_says : Line → Said
line_says Blank = skipped
line_says (Entry address word) = entry address word
line_says IllFormed = refused 2

-- what a line's bytes say
abbrev pub said_by : List ℕ → Said
said_by line = line_says (read_line line)
