-- Document 01, 'Instruction table': what o 0 to 8 and SL0 to NOT give, value and flags. o 0-6 and SL0 to NOT set N and Z;
-- 'Only ADD, SUB, ADDI, SUBI set C and V'. (LD 'sets none', and is no arithmetic.)
use Rattle.std.specs.Prelude.{ℕ, ◌+◌, ◌*◌, ◌/◌, ◌%◌, true, false}
use Rattle.words.specs.Arithmetic.{conjunction, disjunction, exclusive, complement, left, right}
use Rattle.isa.specs.declared.Flags.{Flags}
use Rattle.isa.specs.declared.BinaryOp.{BinaryOp}
use Rattle.isa.specs.declared.BinaryOp.TheVariants.{Add, Sub, And, Or, Xor}
use Rattle.isa.specs.declared.ConstantOp.{ConstantOp}
use Rattle.isa.specs.declared.ConstantOp.TheVariants.{Addi, Subi, Ldl, Ldh}
use Rattle.isa.specs.declared.UnaryOp.{UnaryOp}
use Rattle.isa.specs.declared.UnaryOp.TheVariants.{Sl0, Sl1, Sr0, Sr1, Not}
use Rattle.alu.specs.declared.Outcome.{Outcome}
use Rattle.alu.specs.Flags.{silent, sets_nz, added, subtracted}

-- 'ADD, SUB, AND, OR, XOR: Rt from Ra, Rb', which are here p and q
abbrev pub binary_result : BinaryOp → ℕ → ℕ → Flags → Outcome
binary_result Add p q flags = added p q
binary_result Sub p q flags = subtracted p q
binary_result And p q flags = sets_nz (conjunction p q) flags
binary_result Or p q flags = sets_nz (disjunction p q) flags
binary_result Xor p q flags = sets_nz (exclusive p q) flags

-- 'ADDI, SUBI: Rt plus or minus k'; LDL: 'k replaces the low byte of Rt'; LDH: 'k replaces the high byte'. Rt is here p
abbrev pub constant_result : ConstantOp → ℕ → ℕ → Flags → Outcome
constant_result Addi p k flags = added p k
constant_result Subi p k flags = subtracted p k
constant_result Ldl p k flags = silent (p / 256 * 256 + k) flags
constant_result Ldh p k flags = silent (k * 256 + p % 256) flags

-- SL0, SL1: 'Ra left by one, 0 or 1 enters'; SR0, SR1: 'right by one'; 'NOT Ra'. Ra is here p
abbrev pub unary_result : UnaryOp → ℕ → Flags → Outcome
unary_result Sl0 p flags = sets_nz (left p false) flags
unary_result Sl1 p flags = sets_nz (left p true) flags
unary_result Sr0 p flags = sets_nz (right p false) flags
unary_result Sr1 p flags = sets_nz (right p true) flags
unary_result Not p flags = sets_nz (complement p) flags
