-- Document 01, 'Instruction table': the 40 instructions, and where each word stands among them.
use Rattle.std.specs.Prelude.{ℕ, ◌+◌, ◌-◌, ◌*◌, cond, List, [], ◌∷◌, ltb, eqb, get_or}
use Rattle.isa.specs.Fields.{field_o, field_b, bits11to10}
use Rattle.isa.specs.declared.Kind.{Kind}
use Rattle.isa.specs.declared.Kind.TheVariants.{Undefined, Binary, Constant, Ld, St, Unary, Nop, Halt, Ldsp, Rts, Pop, Push, Jump, Call}
use Rattle.isa.specs.declared.BinaryOp.{BinaryOp}
use Rattle.isa.specs.declared.BinaryOp.TheVariants.{Add, Sub, And, Or, Xor}
use Rattle.isa.specs.declared.ConstantOp.{ConstantOp}
use Rattle.isa.specs.declared.ConstantOp.TheVariants.{Addi, Subi, Ldl, Ldh}
use Rattle.isa.specs.declared.UnaryOp.{UnaryOp}
use Rattle.isa.specs.declared.UnaryOp.TheVariants.{Sl0, Sl1, Sr0, Sr1, Not}
use Rattle.isa.specs.declared.Condition.{Condition}
use Rattle.isa.specs.declared.Condition.TheVariants.{Always, Negative, Zero, Carry, Overflow}
use Rattle.isa.specs.declared.Target.{Target}
use Rattle.isa.specs.declared.Target.TheVariants.{Relative, Absolute, Displaced}

-- the 40 instructions, in the order of document 01
unfoldable pub table : List Kind
table =
    -- o 0 to A
    Binary Add ∷
    Binary Sub ∷
    Binary And ∷
    Binary Or ∷
    Binary Xor ∷
    Constant Addi ∷
    Constant Subi ∷
    Constant Ldl ∷
    Constant Ldh ∷
    Ld ∷
    St ∷
    -- B, by b
    Unary Sl0 ∷
    Unary Sl1 ∷
    Unary Sr0 ∷
    Unary Sr1 ∷
    Unary Not ∷
    Nop ∷
    Halt ∷
    Ldsp ∷
    Rts ∷
    Pop ∷
    Push ∷
    -- C, by b: JMPR to JMPVR, JMP to JMPV, JSRR, JSR
    Jump Always Relative ∷
    Jump Negative Relative ∷
    Jump Zero Relative ∷
    Jump Carry Relative ∷
    Jump Overflow Relative ∷
    Jump Always Absolute ∷
    Jump Negative Absolute ∷
    Jump Zero Absolute ∷
    Jump Carry Absolute ∷
    Jump Overflow Absolute ∷
    Call Relative ∷
    Call Absolute ∷
    -- D: JMPD
    Jump Always Displaced ∷
    -- E, by bits 11-10: JMPND to JMPVD
    Jump Negative Displaced ∷
    Jump Zero Displaced ∷
    Jump Carry Displaced ∷
    Jump Overflow Displaced ∷
    -- F: JSRD
    Call Displaced ∷
    []

-- where a word stands in the table; 40, past its end, for an undefined word
-- ('B with b from B to F and C with b from C to F are undefined')
unfoldable pub place_of : ℕ → ℕ
place_of w =
    cond (ltb (field_o w) 11) (field_o w)
    (cond (eqb (field_o w) 11) (cond (ltb (field_b w) 11) (11 + field_b w) 40)
    (cond (eqb (field_o w) 12) (cond (ltb (field_b w) 12) (22 + field_b w) 40)
    (cond (eqb (field_o w) 13) 34
    (cond (eqb (field_o w) 14) (35 + bits11to10 w) 39))))

-- which instruction a word is
unfoldable pub kind_of : ℕ → Kind
kind_of w = get_or table (place_of w) Undefined

-- where the instructions of a class stand in the table: its order the other way round, which `TableEntries` shows of every number here
abbrev pub binary_entry : BinaryOp → ℕ
binary_entry Add = 0
binary_entry Sub = 1
binary_entry And = 2
binary_entry Or = 3
binary_entry Xor = 4

abbrev pub constant_entry : ConstantOp → ℕ
constant_entry Addi = 5
constant_entry Subi = 6
constant_entry Ldl = 7
constant_entry Ldh = 8

abbrev pub unary_entry : UnaryOp → ℕ
unary_entry Sl0 = 11
unary_entry Sl1 = 12
unary_entry Sr0 = 13
unary_entry Sr1 = 14
unary_entry Not = 15

-- the jumps to one target stand together, in the order always, N, Z, C, V
abbrev pub condition_rank : Condition → ℕ
condition_rank Always = 0
condition_rank Negative = 1
condition_rank Zero = 2
condition_rank Carry = 3
condition_rank Overflow = 4

abbrev pub first_jump : Target → ℕ
first_jump Relative = 22
first_jump Absolute = 27
first_jump Displaced = 34

abbrev pub jump_entry : Condition → Target → ℕ
jump_entry condition target = first_jump target + condition_rank condition

abbrev pub call_entry : Target → ℕ
call_entry Relative = 32
call_entry Absolute = 33
call_entry Displaced = 39

-- where an instruction stands in the table; 40, past its end, for the undefined kind
abbrev pub entry : Kind → ℕ
entry Undefined = 40
entry (Binary op) = binary_entry op
entry (Constant op) = constant_entry op
entry Ld = 9
entry St = 10
entry (Unary op) = unary_entry op
entry Nop = 16
entry Halt = 17
entry Ldsp = 18
entry Rts = 19
entry Pop = 20
entry Push = 21
entry (Jump condition target) = jump_entry condition target
entry (Call target) = call_entry target

-- the word of the table's entry n with all other fields zero: by the same lines as `place_of`, the other way round. No entry
-- stands from 40 on: there it is F000, which nothing uses
unfoldable pub word_of : ℕ → ℕ
word_of n =
    cond (ltb n 11) (n * 0x1000)
    (cond (ltb n 22) (0xB000 + (n - 11))
    (cond (ltb n 34) (0xC000 + (n - 22))
    (cond (ltb n 35) 0xD000
    (cond (ltb n 39) (0xE000 + (n - 35) * 0x400) 0xF000))))
