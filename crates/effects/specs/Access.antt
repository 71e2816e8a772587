-- Document 01, 'Datapath cycles', cycle 4: which access to memory it makes, by the instruction in IR, and at which address.
use Rattle.std.specs.Prelude.{ℕ}
use Rattle.isa.specs.declared.Kind.{Kind}
use Rattle.isa.specs.declared.Kind.TheVariants.{Undefined, Binary, Constant, Ld, St, Unary, Nop, Halt, Ldsp, Rts, Pop, Push, Jump, Call}
use Rattle.effects.specs.declared.Effect.{Effect}
use Rattle.effects.specs.declared.Hidden.{Hidden}

pub data Access : Type 0 where
  none : Access
  read : Access
  write : Access

abbrev pub access_of : Kind → Access
access_of Undefined = none
access_of (Binary op) = none
access_of (Constant op) = none
access_of Ld = read
access_of St = write
access_of (Unary op) = none
access_of Nop = none
access_of Halt = none
access_of Ldsp = none
access_of Rts = read
access_of Pop = read
access_of Push = write
access_of (Jump condition target) = none
access_of (Call target) = write

-- the address: SP for PUSH and the calls, RALU for LD, ST, POP and RTS (and for all others, which make none)
abbrev pub address_of : Kind → Hidden → Effect → ℕ
address_of Undefined h x = h.ralu
address_of (Binary op) h x = h.ralu
address_of (Constant op) h x = h.ralu
address_of Ld h x = h.ralu
address_of St h x = h.ralu
address_of (Unary op) h x = h.ralu
address_of Nop h x = h.ralu
address_of Halt h x = h.ralu
address_of Ldsp h x = h.ralu
address_of Rts h x = h.ralu
address_of Pop h x = h.ralu
address_of Push h x = x.sp
address_of (Jump condition target) h x = h.ralu
address_of (Call target) h x = x.sp
