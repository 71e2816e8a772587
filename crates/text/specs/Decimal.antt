-- Document 01: 'Every other figure is in base ten'. A number as text, in ASCII.
use Rattle.std.specs.Prelude.{cond, List, [], ◌∷◌, ◌++◌, ℕ, zero, suc, ◌+◌, ◌-◌, ◌*◌, ◌/◌, ◌%◌, ltb, length, replicate}
use Rattle.text.specs.declared.Figure.{Figure}

-- the last digit of a number; an instruction's cycles, 2 to 4, have no other
abbrev pub last_digit : ℕ → ℕ
last_digit n = 48 + n % 10

-- a number in so many digits at most: one below ten is its digit, of another the digits of its tenth stand before its last
unfoldable pub decimal_in : ℕ → ℕ → List ℕ
decimal_in zero n = []
decimal_in (suc most) n = cond (ltb n 10) (last_digit n ∷ []) (decimal_in most (n / 10) ++ (last_digit n ∷ []))

-- in as many as it has, which are fewer than n + 2
unfoldable pub decimal_text : ℕ → List ℕ
decimal_text n = decimal_in (suc n) n

-- text at the end of 20 bytes, spaces before it, and where it starts
abbrev pub at_end : List ℕ → Figure
at_end text =
    let start : ℕ = 20 - length text in
    record { digits = replicate start 32 ++ text; start = start }

-- read back, a digit after the other: what digits say that stand after those of n
unfoldable pub read_after : ℕ → List ℕ → ℕ
read_after n [] = n
read_after n (byte ∷ rest) = read_after (10 * n + (byte - 48)) rest
