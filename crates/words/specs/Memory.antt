-- Document 01, 'Core and memory': memory is L lent words, here the list of them.
use Rattle.std.specs.Prelude.{ℕ, List, slice_index, slice_set}

-- 'An address at or past L reads 0000'
abbrev pub word_at : List ℕ → ℕ → ℕ
word_at memory x = slice_index memory x

-- 'a write there is lost': `set` changes nothing at or past the end
abbrev pub stored : List ℕ → ℕ → ℕ → List ℕ
stored memory x v = slice_set memory x v
