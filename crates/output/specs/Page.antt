-- What is put on a page, which is a list of bytes of any length.
use Rattle.std.specs.Prelude.{cond, List, [], ◌∷◌, ◌++◌, ℕ, ◌+◌, ltb, length, set}
use Rattle.text.specs.Decimal.{decimal_text}

-- a page's bytes, and the place where the next one goes
pub record Page : Type 0 where
  pub bytes : List ℕ
  pub place : ℕ

abbrev pub page_at : List ℕ → ℕ → Page
page_at bytes place = record { bytes = bytes; place = place }

-- a byte at its place, and the next goes after it; past the page's end it is lost
abbrev pub put_byte : Page → ℕ → Page
put_byte page byte =
    cond (ltb page.place (length page.bytes)) (page_at (set page.bytes page.place byte) (page.place + 1)) page

-- bytes, one after the other
unfoldable pub put_on : Page → List ℕ → Page
put_on page [] = page
put_on page (byte ∷ rest) = put_on (put_byte page byte) rest

-- what is written of a run's totals: `cycles `, ` instructions ` and ` end `, each with what it names
abbrev pub totals_text : ℕ → ℕ → ℕ → List ℕ
totals_text cycles instructions letter =
    ((99 ∷ 121 ∷ 99 ∷ 108 ∷ 101 ∷ 115 ∷ 32 ∷ []) ++ decimal_text cycles)
    ++ ((32 ∷ 105 ∷ 110 ∷ 115 ∷ 116 ∷ 114 ∷ 117 ∷ 99 ∷ 116 ∷ 105 ∷ 111 ∷ 110 ∷ 115 ∷ 32 ∷ []) ++ decimal_text instructions)
    ++ (32 ∷ 101 ∷ 110 ∷ 100 ∷ 32 ∷ letter ∷ [])
