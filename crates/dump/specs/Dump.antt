-- Document 02, note 1, 'Listings back out of memory': what is written, the numbers 1, 4 and 10, and what the call answers. `dumped` is what it is
-- to give back, `dump_gave` what the code gave; the contract is that the two are equal. A memory is the list of its words, a text the list of its
-- bytes.
use Rattle.std.specs.Prelude.{Bool, cond, List, [], ◌∷◌, ◌++◌, ℕ, zero, suc, ◌+◌, ◌*◌, eqb, ltb, length, drop, Result, Ok, Err}
use Rattle.words.specs.Memory.{word_at}
use Rattle.refusals.specs.Refusals.{refusal_number, wrong_length, first_number}
use Rattle.hexadecimal.specs.Digits.{word_text}
use Rattle.lines.specs.Lines.{line_feed, space}
use Rattle.listing.specs.Answers.{fault_number}
use Rattle.r8_core.specs.declared.ListingError.{ListingError}
use Rattle.r8_core.specs.declared.ListingError.TheVariants.{Refused, Faulty}

-- 'address, space, word, LF, ten bytes each, capitals'
abbrev pub entry_text : ℕ → ℕ → List ℕ
entry_text address word = word_text address ++ (space ∷ (word_text word ++ (line_feed ∷ [])))

-- 'Given a first address and a count, the memory is written as listing lines'
unfoldable pub listing_text : List ℕ → ℕ → ℕ → List ℕ
listing_text memory first zero = []
listing_text memory first (suc count) = entry_text first (word_at memory first) ++ listing_text memory (first + 1) count

-- 'First address plus count above L'; 'the lent text is shorter than ten bytes a word'
abbrev pub past_end : ℕ → ℕ → ℕ → Bool
past_end L first count = ltb L (first + count)

abbrev pub too_short : ℕ → ℕ → Bool
too_short room count = ltb room (10 * count)

-- '.. is refused with 4', '10 when ..; checked after 1 and 4'; 0 where none applies
unfoldable pub dump_number : ℕ → ℕ → ℕ → ℕ → ℕ
dump_number L first count room = first_number ((1, wrong_length L) ∷ (4, past_end L first count) ∷ (10, too_short room count) ∷ [])

-- the answers: how many bytes were written (the paper leaves it free); or 1 or 10; or 4 with its offset
pub data Answer : Type 0 where
  written : ℕ → Answer
  refused : ℕ → Answer
  refused_at : ℕ → ℕ → Answer

-- '4, its offset being 0'
abbrev pub refusal : ℕ → Answer
refusal number = cond (eqb number 4) (refused_at number 0) (refused number)

-- what the call gives back: its answer, and the lent text as it then is
pub record Dumped : Type 0 where
  pub answer : Answer
  pub text : List ℕ

-- 'Text bytes past the last line stay'; a refusal changes none
unfoldable pub dumped : List ℕ → ℕ → ℕ → List ℕ → Dumped
dumped memory first count text =
    cond (eqb (dump_number (length memory) first count (length text)) 0)
    (record { answer = written (10 * count); text = listing_text memory first count ++ drop (10 * count) text })
    (record { answer = refusal (dump_number (length memory) first count (length text)); text = text })

-- what the code gave back, read so: the papers' number and values for each case
abbrev pub answer_of : Result ℕ ListingError → Answer
answer_of (Ok bytes) = written bytes
answer_of (Err (Refused why)) = refused (refusal_number why)
answer_of (Err (Faulty at)) = refused_at (fault_number at.fault) at.offset

abbrev pub dump_gave : Result ℕ ListingError → List ℕ → Dumped
dump_gave answer text = record { answer = answer_of answer; text = text }
