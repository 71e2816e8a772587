-- Document 01, 'Listing': the comment call.
use Rattle.std.specs.Prelude.{List, ℕ, ◌+◌, min, length, drop}
use Rattle.lines.specs.Lines.{semicolon, find, first_line}

-- the line from an offset on, without the LF
abbrev pub line_from : List ℕ → ℕ → List ℕ
line_from listing offset = first_line (drop offset listing)

-- 'that stretch .. after it, up to the line's end without the LF, or an empty one'
abbrev pub comment_text : List ℕ → ℕ → List ℕ
comment_text listing offset = drop (find semicolon (line_from listing offset) + 1) (line_from listing offset)

-- where it starts in the listing; an empty one at its line's end, or at the listing's
abbrev pub comment_start : List ℕ → ℕ → ℕ
comment_start listing offset =
    min offset (length listing) + min (find semicolon (line_from listing offset) + 1) (length (line_from listing offset))
