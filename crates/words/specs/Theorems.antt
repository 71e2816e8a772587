-- The bits of words, and a memory of words: four statements, proved in proofs/Theorems.antt.
use Rattle.std.specs.Prelude.{◌≡◌, ℕ, ◌+◌, ◌/◌, ◌%◌, ◌^◌, ◌<◌, ◌≤◌, min, max, List, length, ◌≢◌}
use Rattle.words.specs.Memory.{word_at, stored}
use Rattle.words.specs.Arithmetic.{conjunction, disjunction, exclusive}

-- bit i of a number
abbrev pub bit_at : ℕ → ℕ → ℕ
bit_at i p = p / 2 ^ i % 2

-- bit i of 'and' is 1 where both have it 1, of 'or' where one has (proved as `and_bits` and `or_bits`)
abbrev pub AndBits : Type 0
AndBits = (i p q : ℕ) → bit_at i (conjunction p q) ≡ min (bit_at i p) (bit_at i q)

abbrev pub OrBits : Type 0
OrBits = (i p q : ℕ) → bit_at i (disjunction p q) ≡ max (bit_at i p) (bit_at i q)

-- and of 'exclusive or' where just one has (proved as `xor_bits`)
abbrev pub XorBits : Type 0
XorBits = (i p q : ℕ) → bit_at i (exclusive p q) ≡ (bit_at i p + bit_at i q) % 2

-- 'An address at or past L reads 0000; a write there is lost'; below L the word written is read there. Every other address reads as
-- before, and L stays (proved as `memory_exactly`)
abbrev pub MemoryExactly : Type 0
MemoryExactly =
    (memory : List ℕ) (x v : ℕ)
    → (length memory ≤ x → (word_at memory x ≡ 0) × (stored memory x v ≡ memory))
    × (x < length memory → word_at (stored memory x v) x ≡ v)
    × ((y : ℕ) → (y ≢ x) → word_at (stored memory x v) y ≡ word_at memory y)
    × (length (stored memory x v) ≡ length memory)
