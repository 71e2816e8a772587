-- Document 01, 'Listing' and the numbers 2, 3, 4: the answer to a listing, and the memory that it leaves.
use Rattle.std.specs.Prelude.{cond, List, [], ◌∷◌, ℕ, ◌+◌, eqb, ltb, leb, length}
use Rattle.words.specs.Memory as words
use Rattle.lines.specs.Lines.{lines, read_line}
use Rattle.lines.specs.declared.Line.{Line}
use Rattle.lines.specs.declared.Line.TheVariants.{Blank, Entry, IllFormed}
use Rattle.listing.specs.Answers.{Answer, stored, refused}

-- 'addresses strictly rise': the lowest that a line may say is one past the address last read, 0 if none was
abbrev pub lowest_after : Line → ℕ → ℕ
lowest_after Blank lowest = lowest
lowest_after (Entry address word) lowest = address + 1
lowest_after IllFormed lowest = lowest

-- '4: address at or past L', before '3: address not above the one before'; 0 where it is neither
abbrev pub address_fault : ℕ → ℕ → ℕ → ℕ
address_fault L lowest address = cond (leb L address) 4 (cond (ltb address lowest) 3 0)

-- the number of a line's fault, 0 where it has none: an ill-formed line has no address, so 2 comes first in the 'order 2, 4, 3'
abbrev pub fault_of : ℕ → ℕ → Line → ℕ
fault_of L lowest Blank = 0
fault_of L lowest (Entry address word) = address_fault L lowest address
fault_of L lowest IllFormed = 2

-- what checking finds: no fault, or the first with its number and the offset of its line's start
pub data Check : Type 0 where
  sound : Check
  faulty : ℕ → ℕ → Check

abbrev pub first_of : ℕ → ℕ → Check → Check
first_of number start later = cond (eqb number 0) later (faulty number start)

-- the 'first faulty line' of lines of which the first starts at an offset; the next starts past a line and its LF
unfoldable pub first_fault : ℕ → ℕ → ℕ → List (List ℕ) → Check
first_fault L lowest start [] = sound
first_fault L lowest start (line ∷ rest) =
    first_of (fault_of L lowest (read_line line)) start
    (first_fault L (lowest_after (read_line line) lowest) (start + (length line + 1)) rest)

-- how many words a line has, and all lines have
abbrev pub words_of : Line → ℕ
words_of Blank = 0
words_of (Entry address word) = 1
words_of IllFormed = 0

unfoldable pub words_in : List (List ℕ) → ℕ
words_in [] = 0
words_in (line ∷ rest) = words_of (read_line line) + words_in rest

-- each line's word stored at its address, 'other words stay'
abbrev pub store_line : Line → List ℕ → List ℕ
store_line Blank memory = memory
store_line (Entry address word) memory = words.stored memory address word
store_line IllFormed memory = memory

unfoldable pub store_lines : List (List ℕ) → List ℕ → List ℕ
store_lines [] memory = memory
store_lines (line ∷ rest) memory = store_lines rest (store_line (read_line line) memory)

-- 'A load checks all lines before it writes': the check decides over answer and memory
abbrev pub answer_of : Check → ℕ → Answer
answer_of sound count = stored count
answer_of (faulty number start) count = refused number start

abbrev pub memory_of : Check → List ℕ → List ℕ → List ℕ
memory_of sound after before = after
memory_of (faulty number start) after before = before

unfoldable pub check_of : List ℕ → ℕ → Check
check_of listing L = first_fault L 0 0 (lines listing)

-- 'It answers the words stored', their number
unfoldable pub listing_answer : List ℕ → ℕ → Answer
listing_answer listing L = answer_of (check_of listing L) (words_in (lines listing))

unfoldable pub listing_memory : List ℕ → List ℕ → List ℕ
listing_memory listing memory = memory_of (check_of listing (length memory)) (store_lines (lines listing) memory) memory
