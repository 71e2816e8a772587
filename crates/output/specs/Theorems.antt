-- What a page is once bytes are put on it, where there is room for them: one statement, proved in proofs/Stores.antt.
use Rattle.std.specs.Prelude.{◌≡◌, List, ◌++◌, ℕ, ◌+◌, ◌≤◌, length, take, drop}
use Rattle.output.specs.Page.{page_at, put_on}

-- they stand on it from the place on, all else stays, and the next place is after them (proved as `put_whole`)
abbrev pub PutWhole : Type 0
PutWhole =
    (page text : List ℕ) (place : ℕ) → place + length text ≤ length page
    → put_on (page_at page place) text ≡ page_at (take place page ++ text ++ drop (place + length text) page) (place + length text)
