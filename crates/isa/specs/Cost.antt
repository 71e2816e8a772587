-- Document 01, 'Instruction table': 'Cost: HALT and undefined 2; NOP and an untaken jump 3; all others 4.'
use Rattle.std.specs.Prelude.{ℕ, Bool, true, false}
use Rattle.isa.specs.Control.{taken}
use Rattle.isa.specs.declared.Flags.{Flags}
use Rattle.isa.specs.declared.Class.{Class}
use Rattle.isa.specs.declared.Class.TheVariants.{Stop, Short, Full}
use Rattle.isa.specs.declared.Kind.{Kind}
use Rattle.isa.specs.declared.Kind.TheVariants.{Undefined, Binary, Constant, Ld, St, Unary, Nop, Halt, Ldsp, Rts, Pop, Push, Jump, Call}

-- the cycles of each class
abbrev pub count_of : Class → ℕ
count_of Stop = 2
count_of Short = 3
count_of Full = 4

-- of a jump, by whether it is taken
abbrev pub jump_class : Bool → Class
jump_class true = Full
jump_class false = Short

-- HALT and undefined are in the first class, NOP and an untaken jump in the second, all others in the third
abbrev pub class_of : Kind → Flags → Class
class_of Undefined flags = Stop
class_of (Binary op) flags = Full
class_of (Constant op) flags = Full
class_of Ld flags = Full
class_of St flags = Full
class_of (Unary op) flags = Full
class_of Nop flags = Short
class_of Halt flags = Stop
class_of Ldsp flags = Full
class_of Rts flags = Full
class_of Pop flags = Full
class_of Push flags = Full
class_of (Jump condition target) flags = jump_class (taken condition flags)
class_of (Call target) flags = Full

-- the cycles of an instruction under these flags
unfoldable pub cost_of : Kind → Flags → ℕ
cost_of kind flags = count_of (class_of kind flags)
