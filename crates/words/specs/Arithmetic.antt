-- Document 01, 'Core and memory': 'every sum and difference of words is taken modulo 65,536'; and the bits of words.
use Rattle.std.specs.Prelude.{ℕ, ◌+◌, ◌-◌, ◌*◌, ◌/◌, ◌%◌, Bool, true, false, bit_and, bit_or, bit_xor}

abbrev pub sum : ℕ → ℕ → ℕ
sum p q = (p + q) % 65536

abbrev pub difference : ℕ → ℕ → ℕ
difference p q = (p + (65536 - q)) % 65536

-- bit by bit, as Theorems says
unfoldable pub conjunction : ℕ → ℕ → ℕ
conjunction p q = bit_and p q

unfoldable pub disjunction : ℕ → ℕ → ℕ
disjunction p q = bit_or p q

unfoldable pub exclusive : ℕ → ℕ → ℕ
exclusive p q = bit_xor p q

-- every bit the other way round
abbrev pub complement : ℕ → ℕ
complement p = 65535 - p

-- the number of a bit
abbrev pub bit : Bool → ℕ
bit false = 0
bit true = 1

-- left by one, the bit enters below
abbrev pub left : ℕ → Bool → ℕ
left p enters = (p * 2 + bit enters) % 65536

-- right by one, the bit enters above
abbrev pub right : ℕ → Bool → ℕ
right p enters = bit enters * 32768 + p / 2
