-- What the code of a page does to it.
use Rattle.std.specs.Prelude.{◌≡◌, List, ℕ}
use Rattle.output.specs.declared.Page.{Page}
use Rattle.output.specs.Page.{page_at, put_on}

-- the same bytes of the caller's, with some more put on them
abbrev pub Puts : Page → Page → List ℕ → Type 0
Puts old new text =
    (new.bytes.ghost_name ≡ old.bytes.ghost_name)
    × (page_at new.bytes.now new.at ≡ put_on (page_at old.bytes.now old.at) text)
