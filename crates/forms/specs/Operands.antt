-- Document 01, 'Instruction table' and number 5: the operands of an instruction, all six that there are, in the order t, a, b, k,
-- d10, d12.
use Rattle.std.specs.Prelude.{ℕ, ◌+◌, ◌*◌, ◌%◌, Bool, ◌||◌, ltb, ℤ, pos, neg_ℤ}
use Rattle.std.specs.Int.Signed.{lt_z}
use Rattle.std.specs.Int.{w16}
use Rattle.std.proofs.Common.{to_z, of_z}
use Rattle.isa.specs.Fields.{field_t, field_a, field_b, field_k, d10, d12}
use Rattle.forms.specs.declared.Operands.{Operands}

-- a word of 16 bits as a signed number, and back: the language's own reading of an `i16`
abbrev pub signed : ℕ → ℤ
signed w = to_z w16 w

abbrev pub unsigned : ℤ → ℕ
unsigned d = of_z w16 d

-- the operands in a word: its fields, the displacements as signed numbers
unfoldable pub operands_of : ℕ → Operands
operands_of w = (field_t w, field_a w, field_b w, field_k w, signed (d10 w), signed (d12 w))

-- what number 5 says of one operand: 'a register above 15, constant above 255, d10 outside -512..511 or d12 outside -2048..2047'
abbrev pub no_register : ℕ → Bool
no_register r = ltb 15 r

abbrev pub no_constant : ℕ → Bool
no_constant k = ltb 255 k

abbrev pub outside : ℤ → ℤ → ℤ → Bool
outside least most d = lt_z d least || lt_z most d

abbrev pub no_short : ℤ → Bool
no_short d = outside (neg_ℤ (pos 512)) (pos 511) d

abbrev pub no_long : ℤ → Bool
no_long d = outside (neg_ℤ (pos 2048)) (pos 2047) d

-- and of all
unfoldable pub fault : Operands → Bool
fault x =
    no_register x.0 || (no_register x.1 || (no_register x.2 || (no_constant x.3 || (no_short x.4 || no_long x.5))))

-- operands in their fields, bits 11-8, 7-4, 3-0, 7-0, 9-0 and 11-0; of those that overlap an instruction has one, the rest zero
unfoldable pub placed : Operands → ℕ
placed x = x.0 * 256 + x.1 * 16 + x.2 + x.3 + unsigned x.4 % 1024 + unsigned x.5 % 4096
