-- What a line of a script says: `reset`, `load`, `end`, `step`, `view`; or `run`, one space and a number in decimal digits (at most
-- 4,294,967,295); or `listing`, one space, an address in four hexadecimal digits of either case, one space and such a number. Its word stands at
-- its first byte, in lower case; behind all come spaces or none, then nothing or `;` and a comment. A line without a word is skipped. CR and tab
-- are no spaces. A line is the list of its bytes, without its LF.
use Rattle.std.specs.Prelude.{Bool, true, false, cond, ◌&&◌, List, [], ◌∷◌, ℕ, ◌+◌, ◌-◌, ◌*◌, eqb, leb, ltb, length, get_or, drop, Option, Some, None}
use Rattle.lines.specs.Lines.{space, ends, byte_at, number_at}
use Rattle.script.specs.declared.Command.{Command}
use Rattle.script.specs.declared.Command.TheVariants.{Blank, Reset, Load, End, Run, Step, View, Listing, Unknown}

-- the words, in ASCII: `reset`, `load`, `end`, `step`, `view`, and `run` and `listing` with their spaces
abbrev pub reset_word : List ℕ
reset_word = 114 ∷ 101 ∷ 115 ∷ 101 ∷ 116 ∷ []

abbrev pub load_word : List ℕ
load_word = 108 ∷ 111 ∷ 97 ∷ 100 ∷ []

abbrev pub end_word : List ℕ
end_word = 101 ∷ 110 ∷ 100 ∷ []

abbrev pub step_word : List ℕ
step_word = 115 ∷ 116 ∷ 101 ∷ 112 ∷ []

abbrev pub view_word : List ℕ
view_word = 118 ∷ 105 ∷ 101 ∷ 119 ∷ []

abbrev pub run_word : List ℕ
run_word = 114 ∷ 117 ∷ 110 ∷ 32 ∷ []

abbrev pub listing_word : List ℕ
listing_word = 108 ∷ 105 ∷ 115 ∷ 116 ∷ 105 ∷ 110 ∷ 103 ∷ 32 ∷ []

-- whether a line begins with a word
unfoldable pub begins : List ℕ → List ℕ → Bool
begins [] line = true
begins (w ∷ word) [] = false
begins (w ∷ word) (b ∷ line) = cond (eqb b w) (begins word line) false

-- the word, then spaces or none, then nothing or `;` and a comment
unfoldable pub says : List ℕ → List ℕ → Bool
says word line = begins word line && ends (drop (length word) line)

-- the digits 0 to 9
unfoldable pub is_digit : ℕ → Bool
is_digit b = leb 48 b && leb b 57

-- a number of 32 bits, its digits followed by the end of a line as above
unfoldable pub value_of : ℕ → Bool → Option ℕ
value_of n ended = cond (leb n 4294967295 && ended) (Some n) None

-- the digits on from a value read so far
unfoldable pub decimal_from : ℕ → List ℕ → Option ℕ
decimal_from n [] = value_of n true
decimal_from n (b ∷ t) = cond (is_digit b) (decimal_from (n * 10 + (b - 48)) t) (value_of n (ends (b ∷ t)))

-- a digit or more; the byte 0, which is no digit, stands for the one past the end
unfoldable pub decimal_of : List ℕ → Option ℕ
decimal_of t = cond (is_digit (get_or t 0 0)) (decimal_from 0 t) None

-- a run, by its budget
abbrev pub run_of : Option ℕ → Command
run_of (Some n) = Run n
run_of None = Unknown

-- a listing, by its address (65,536 where there are not four digits), the byte behind it and its count
abbrev pub listing_of : ℕ → ℕ → Option ℕ → Command
listing_of first between (Some count) = cond (ltb first 65536 && eqb between space) (Listing first count) Unknown
listing_of first between None = Unknown

-- what follows `listing` and its space: the address at places 0 to 3, the byte behind it at 4, the count from 5 on
unfoldable pub listing_at : List ℕ → Command
listing_at t = listing_of (number_at t 0) (byte_at t 4) (decimal_of (drop 5 t))

-- the commands with numbers behind their word
unfoldable pub with_numbers : List ℕ → Command
with_numbers line =
    cond (begins run_word line) (run_of (decimal_of (drop 4 line))) (cond (begins listing_word line) (listing_at (drop 8 line)) Unknown)

-- those that are a word alone, then those with numbers
unfoldable pub command_of : List ℕ → Command
command_of line =
    cond (ends line) Blank
    (cond (says reset_word line) Reset
    (cond (says load_word line) Load
    (cond (says end_word line) End
    (cond (says step_word line) Step
    (cond (says view_word line) View (with_numbers line))))))
