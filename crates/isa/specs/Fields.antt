-- Document 01, 'Instruction table': the fields of an instruction word.
use Rattle.std.specs.Prelude.{ℕ, ◌+◌, ◌-◌, ◌*◌, ◌/◌, ◌%◌, cond, ltb}

-- 'o = bits 15-12, t = bits 11-8, a = bits 7-4, b = bits 3-0, k = bits 7-0 without sign'
abbrev pub field_o : ℕ → ℕ
field_o w = w / 4096

abbrev pub field_t : ℕ → ℕ
field_t w = w / 256 % 16

abbrev pub field_a : ℕ → ℕ
field_a w = w / 16 % 16

abbrev pub field_b : ℕ → ℕ
field_b w = w % 16

abbrev pub field_k : ℕ → ℕ
field_k w = w % 256

-- bits 11-10, by which E goes on
abbrev pub bits11to10 : ℕ → ℕ
bits11to10 w = w / 1024 % 4

-- a number below 2 * half as a word of 16 bits: from half on its top bit is set, and so are all bits above it
abbrev pub extended : ℕ → ℕ → ℕ
extended half v = cond (ltb v half) v (v + (65536 - 2 * half))

-- 'd10 and d12 are bits 9-0 and 11-0, sign extended'
abbrev pub d10 : ℕ → ℕ
d10 w = extended 512 (w % 1024)

abbrev pub d12 : ℕ → ℕ
d12 w = extended 2048 (w % 4096)
