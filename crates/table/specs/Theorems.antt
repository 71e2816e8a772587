-- What holds of the table as a whole: three statements, proved in proofs/Theorems.antt.
use Rattle.std.specs.Prelude.{◌≡◌, ◌↔◌, ◌⊎◌, Bool, ℕ, ◌+◌, ◌*◌, ◌≤◌, ◌<◌, eqb, length, get_or}
use Rattle.words.specs.Arithmetic.{bit}
use Rattle.isa.specs.Fields.{field_o, field_b}
use Rattle.table.specs.Table.{table, kind_of, entry}
use Rattle.isa.specs.declared.Kind.{Kind}
use Rattle.isa.specs.declared.Kind.TheVariants.{Undefined}

-- the table has 40 entries; each kind is found where `entry` says, the undefined one past the end, and nowhere else (proved as
-- `table_entries`)
abbrev pub TableEntries : Type 0
TableEntries =
    (length table ≡ 40) × ((k : Kind) → get_or table (entry k) Undefined ≡ k)
    × ((n : ℕ) → n ≤ 40 → entry (get_or table n Undefined) ≡ n)

-- 'B with b from B to F and C with b from C to F are undefined', and no other word is (proved as `undefined_exactly`)
abbrev pub UndefinedExactly : Type 0
UndefinedExactly =
    (w : ℕ) → w < 65536 → (kind_of w ≡ Undefined) ↔ (((field_o w ≡ 11) × (11 ≤ field_b w)) ⊎ ((field_o w ≡ 12) × (12 ≤ field_b w)))

-- a sum over the sixteen digits, and how many words pass a test, over their four digits
abbrev pub over_digits : (ℕ → ℕ) → ℕ
over_digits f =
    f 0 + f 1 + f 2 + f 3 + f 4 + f 5 + f 6 + f 7 + f 8 + f 9 + f 10 + f 11 + f 12 + f 13 + f 14 + f 15

unfoldable pub how_many : (ℕ → Bool) → ℕ
how_many test = over_digits λ o. over_digits λ t. over_digits λ a. over_digits λ b. bit (test (o * 4096 + t * 256 + a * 16 + b))

-- 2,304 of the 65,536 words, five b's of B and four of C with any t and a, are of the undefined kind, which alone has entry 40
-- (proved as `undefined_count`)
abbrev pub UndefinedCount : Type 0
UndefinedCount = how_many (λ w. eqb (entry (kind_of w)) 40) ≡ 2304
