-- Document 01, 'Datapath cycles': what the cycles 2, 3 and 4 do, by the instruction in IR. (The fetch of cycle 1, and which registers cycle 2
-- latches, are the core's.) Then a whole instruction, with what its cycles leave in the hidden registers.
use Rattle.std.specs.Prelude.{ℕ, List}
use Rattle.words.specs.Memory.{word_at}
use Rattle.words.specs.Arithmetic.{sum}
use Rattle.isa.specs.Fields.{field_k}
use Rattle.isa.specs.Control.{taken, jump_target, call_target, second_register}
use Rattle.isa.specs.declared.Kind.{Kind}
use Rattle.isa.specs.declared.Kind.TheVariants.{Undefined, Binary, Constant, Ld, St, Unary, Nop, Halt, Ldsp, Rts, Pop, Push, Jump, Call}
use Rattle.alu.specs.Flags.{silent}
use Rattle.alu.specs.Results.{binary_result, constant_result, unary_result}
use Rattle.alu.specs.declared.Outcome.{Outcome}
use Rattle.effects.specs.Effect.{to_rt, to_pc, to_sp, storing, loaded, pushed}
use Rattle.effects.specs.Hidden.{with_ir, with_ra_rb, with_ralu}
use Rattle.effects.specs.Table.{jumped, executed}
use Rattle.effects.specs.declared.Effect.{Effect}
use Rattle.effects.specs.declared.Executed.{Executed}
use Rattle.effects.specs.declared.Hidden.{Hidden}
use Rattle.effects.specs.declared.Stop.{Stop}
use Rattle.effects.specs.declared.Stop as stop
use Rattle.effects.specs.declared.Stop.TheVariants.{Going, Halted}

-- cycle 2, 'HALT or undefined: stop': the stop state that it sets; going, where cycle 2 stops nothing
abbrev pub stop_of : Kind → Stop
stop_of Undefined = stop.TheVariants.Undefined
stop_of (Binary op) = Going
stop_of (Constant op) = Going
stop_of Ld = Going
stop_of St = Going
stop_of (Unary op) = Going
stop_of Nop = Going
stop_of Halt = Halted
stop_of Ldsp = Going
stop_of Rts = Going
stop_of Pop = Going
stop_of Push = Going
stop_of (Jump condition target) = Going
stop_of (Call target) = Going

-- cycle 3, 'RALU takes ..' and 'Flags change here': h has IR, RA, RB and RALU, and what RALU takes and the flags come out. 'NOP changes
-- nothing'; nor does a HALT or undefined word here, which only a core that no call made can have in this cycle: RALU is as it was
abbrev pub calculated : Kind → Hidden → Effect → Outcome
calculated Undefined h x = silent h.ralu x.flags
calculated (Binary op) h x = binary_result op h.ra h.rb x.flags
calculated (Constant op) h x = constant_result op h.rb (field_k h.ir) x.flags
calculated Ld h x = silent (sum h.ra h.rb) x.flags
calculated St h x = silent (sum h.ra h.rb) x.flags
calculated (Unary op) h x = unary_result op h.ra x.flags
calculated Nop h x = silent h.ralu x.flags
calculated Halt h x = silent h.ralu x.flags
calculated Ldsp h x = silent h.ra x.flags
calculated Rts h x = silent (sum x.sp 1) x.flags
calculated Pop h x = silent (sum x.sp 1) x.flags
calculated Push h x = silent h.rb x.flags
calculated (Jump condition target) h x = silent (jump_target target h.ir x.pc h.ra) x.flags
calculated (Call target) h x = silent (call_target target h.ir x.pc h.ra) x.flags

-- cycle 4. NOP, HALT, undefined words and a jump that is untaken under the flags of that moment are in cycle 4 only on a core that no
-- call made, and change nothing
abbrev pub written_back : Kind → Hidden → List ℕ → Effect → Effect
written_back Undefined h M x = x
written_back (Binary op) h M x = to_rt h.ralu x
written_back (Constant op) h M x = to_rt h.ralu x
written_back Ld h M x = loaded (word_at M h.ralu) x
written_back St h M x = storing h.ralu x.rt x
written_back (Unary op) h M x = to_rt h.ralu x
written_back Nop h M x = x
written_back Halt h M x = x
written_back Ldsp h M x = to_sp h.ralu x
written_back Rts h M x = to_pc (word_at M h.ralu) (to_sp h.ralu x)
written_back Pop h M x = to_rt (word_at M h.ralu) (to_sp h.ralu x)
written_back Push h M x = pushed h.rb x
written_back (Jump condition target) h M x = jumped (taken condition x.flags) h.ralu x
written_back (Call target) h M x = to_pc h.ralu (pushed x.pc x)

-- cycle 2, 'stop .. Otherwise RA takes ..; RB takes ..': what RA or RB is after it, by the stop state that it sets
abbrev pub unless_stopping : Stop → ℕ → ℕ → ℕ
unless_stopping Going new old = new
unless_stopping Halted new old = old
unless_stopping stop.TheVariants.Undefined new old = old

-- what the cycles of the instruction w leave in the hidden registers, RALU with the value v
abbrev pub hidden_after : Stop → ℕ → ℕ → ℕ → ℕ → Hidden → Hidden
hidden_after s w RA RB v h = with_ralu v (with_ra_rb (unless_stopping s RA h.ra) (unless_stopping s RB h.rb) (with_ir w h))

-- a whole instruction: what it does, and what its cycles leave in RALU
abbrev pub leaving : ℕ → Effect → Executed
leaving RALU x = record { effect = x; ralu = RALU }

-- what the table says of it, and the value that cycle 3 gives RALU, from IR, RA and RB as latched: RB takes Rt's value or Rb's, as the kind has it
abbrev pub whole_instruction : Kind → ℕ → ℕ → ℕ → Hidden → List ℕ → Effect → Executed
whole_instruction k w ra rb h M x =
    leaving (calculated k (with_ra_rb ra (second_register k x.rt rb) (with_ir w h)) x).value (executed k w ra rb M x)
