-- Document 01, 'Instruction table', by names: the form of the word with these digits. One statement, proved in proofs/Forms.antt.
use Rattle.std.specs.Prelude.{◌≡◌, ℕ, ◌+◌, ◌*◌, ◌<◌}
use Rattle.isa.specs.declared.BinaryOp.TheVariants.{Add, Sub, And, Or, Xor}
use Rattle.isa.specs.declared.ConstantOp.TheVariants.{Addi, Subi, Ldl, Ldh}
use Rattle.isa.specs.declared.UnaryOp.TheVariants.{Sl0, Sl1, Sr0, Sr1, Not}
use Rattle.isa.specs.declared.Condition.TheVariants.{Always, Negative, Zero, Carry, Overflow}
use Rattle.forms.specs.Answers.{given, refused}
use Rattle.forms.specs.Reading.{word_to_form}
use Rattle.forms.specs.declared.Form.{Form}
use Rattle.reference.specs.Notation.{word, NoInstruction, k, s10, s12}

-- the word w has this form
infix 10 ◌is◌
abbrev pub ◌is◌ : ℕ → Form → Type 0
w is form = word_to_form w ≡ given form

-- for all digits t, a, b; u is bits 9-8 of D and E, and q bits 11-10 of D; 6 is 'word undefined'
pub record Forms (t a b u q : ℕ) : Type 0 where
  pub ADD : word 0x0 t a b is Form.Binary Add t a b
  pub SUB : word 0x1 t a b is Form.Binary Sub t a b
  pub AND : word 0x2 t a b is Form.Binary And t a b
  pub OR : word 0x3 t a b is Form.Binary Or t a b
  pub XOR : word 0x4 t a b is Form.Binary Xor t a b
  pub ADDI : word 0x5 t a b is Form.Constant Addi t (k a b)
  pub SUBI : word 0x6 t a b is Form.Constant Subi t (k a b)
  pub LDL : word 0x7 t a b is Form.Constant Ldl t (k a b)
  pub LDH : word 0x8 t a b is Form.Constant Ldh t (k a b)
  pub LD : word 0x9 t a b is Form.Ld t a b
  pub ST : word 0xA t a b is Form.St t a b
  pub SL0 : word 0xB t a 0x0 is Form.Unary Sl0 t a
  pub SL1 : word 0xB t a 0x1 is Form.Unary Sl1 t a
  pub SR0 : word 0xB t a 0x2 is Form.Unary Sr0 t a
  pub SR1 : word 0xB t a 0x3 is Form.Unary Sr1 t a
  pub NOT : word 0xB t a 0x4 is Form.Unary Not t a
  pub NOP : word 0xB t a 0x5 is Form.Nop
  pub HALT : word 0xB t a 0x6 is Form.Halt
  pub LDSP : word 0xB t a 0x7 is Form.Ldsp a
  pub RTS : word 0xB t a 0x8 is Form.Rts
  pub POP : word 0xB t a 0x9 is Form.Pop t
  pub PUSH : word 0xB t a 0xA is Form.Push t
  pub JMPR : word 0xC t a 0x0 is Form.JumpRelative Always a
  pub JMPNR : word 0xC t a 0x1 is Form.JumpRelative Negative a
  pub JMPZR : word 0xC t a 0x2 is Form.JumpRelative Zero a
  pub JMPCR : word 0xC t a 0x3 is Form.JumpRelative Carry a
  pub JMPVR : word 0xC t a 0x4 is Form.JumpRelative Overflow a
  pub JMP : word 0xC t a 0x5 is Form.JumpAbsolute Always a
  pub JMPN : word 0xC t a 0x6 is Form.JumpAbsolute Negative a
  pub JMPZ : word 0xC t a 0x7 is Form.JumpAbsolute Zero a
  pub JMPC : word 0xC t a 0x8 is Form.JumpAbsolute Carry a
  pub JMPV : word 0xC t a 0x9 is Form.JumpAbsolute Overflow a
  pub JSRR : word 0xC t a 0xA is Form.CallRelative a
  pub JSR : word 0xC t a 0xB is Form.CallAbsolute a
  pub JMPD : word 0xD (q * 4 + u) a b is Form.JumpDisplaced Always (s10 u a b)
  pub JMPND : word 0xE (0x0 + u) a b is Form.JumpDisplaced Negative (s10 u a b)
  pub JMPZD : word 0xE (0x4 + u) a b is Form.JumpDisplaced Zero (s10 u a b)
  pub JMPCD : word 0xE (0x8 + u) a b is Form.JumpDisplaced Carry (s10 u a b)
  pub JMPVD : word 0xE (0xC + u) a b is Form.JumpDisplaced Overflow (s10 u a b)
  pub JSRD : word 0xF t a b is Form.CallDisplaced (s12 t a b)
  pub undefined : (o : ℕ) → NoInstruction o b → word_to_form (word o t a b) ≡ refused 6

-- the page, for all digits (proved as `forms_exactly`)
abbrev pub FormsExactly : Type 0
FormsExactly = (t a b u q : ℕ) → t < 16 → a < 16 → b < 16 → u < 4 → q < 4 → Forms t a b u q
