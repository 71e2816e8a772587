-- Document 01, 'Instruction table' and 'Datapath cycles': when and where jumps and calls go, and the register that RB takes.
use Rattle.std.specs.Prelude.{ℕ, Bool, true}
use Rattle.words.specs.Arithmetic.{sum}
use Rattle.isa.specs.Fields.{d10, d12}
use Rattle.isa.specs.declared.Flags.{Flags}
use Rattle.isa.specs.declared.Condition.{Condition}
use Rattle.isa.specs.declared.Condition.TheVariants.{Always, Negative, Zero, Carry, Overflow}
use Rattle.isa.specs.declared.Target.{Target}
use Rattle.isa.specs.declared.Target.TheVariants.{Relative, Absolute, Displaced}
use Rattle.isa.specs.declared.Kind.{Kind}
use Rattle.isa.specs.declared.Kind.TheVariants.{Undefined, Binary, Constant, Ld, St, Unary, Nop, Halt, Ldsp, Rts, Pop, Push, Jump, Call}

-- '(always, or on N, Z, C, V)'
abbrev pub taken : Condition → Flags → Bool
taken Always flags = true
taken Negative flags = flags.n
taken Zero flags = flags.z
taken Carry flags = flags.c
taken Overflow flags = flags.v

-- 'to PC+Ra', 'to Ra', or to PC and a displacement; 'PC is already one past the instruction'
abbrev pub address : Target → ℕ → ℕ → ℕ → ℕ
address Relative pc register displacement = sum pc register
address Absolute pc register displacement = register
address Displaced pc register displacement = sum pc displacement

-- a jump's displacement is d10, a call's d12
abbrev pub jump_target : Target → ℕ → ℕ → ℕ → ℕ
jump_target target w pc register = address target pc register (d10 w)

abbrev pub call_target : Target → ℕ → ℕ → ℕ → ℕ
call_target target w pc register = address target pc register (d12 w)

-- cycle 2: 'RB takes Rt for ADDI, SUBI, LDL, LDH, PUSH, else Rb', by the fields t and b. HALT and undefined words stop there and
-- latch nothing: what is said of them is not used
abbrev pub second_register : Kind → ℕ → ℕ → ℕ
second_register Undefined t b = b
second_register (Binary op) t b = b
second_register (Constant op) t b = t
second_register Ld t b = b
second_register St t b = b
second_register (Unary op) t b = b
second_register Nop t b = b
second_register Halt t b = b
second_register Ldsp t b = b
second_register Rts t b = b
second_register Pop t b = b
second_register Push t b = t
second_register (Jump condition target) t b = b
second_register (Call target) t b = b
