-- Document 01, 'Instruction table': what each instruction does, at once.
use Rattle.std.specs.Prelude.{ℕ, Bool, true, false, List}
use Rattle.words.specs.Memory.{word_at}
use Rattle.words.specs.Arithmetic.{sum}
use Rattle.isa.specs.Fields.{field_k}
use Rattle.isa.specs.Control.{taken, jump_target, call_target}
use Rattle.isa.specs.declared.Kind.{Kind}
use Rattle.isa.specs.declared.Kind.TheVariants.{Undefined, Binary, Constant, Ld, St, Unary, Nop, Halt, Ldsp, Rts, Pop, Push, Jump, Call}
use Rattle.alu.specs.Results.{binary_result, constant_result, unary_result}
use Rattle.effects.specs.Effect.{to_rt, to_pc, to_sp, stopping, storing, arithmetic_result, loaded, pushed}
use Rattle.effects.specs.declared.Effect.{Effect}
use Rattle.effects.specs.declared.Stop as stop

-- a jump that goes, or does not
abbrev pub jumped : Bool → ℕ → Effect → Effect
jumped true target x = to_pc target x
jumped false target x = x

-- w is the word, ra and rb are Ra and Rb, M is the memory; x has Rt, SP, flags and stop state as they were, and PC 'already one past
-- the instruction'. 'HALT and undefined only set the stop state'; LD sets no flag
abbrev pub executed : Kind → ℕ → ℕ → ℕ → List ℕ → Effect → Effect
executed Undefined w ra rb M x = stopping stop.TheVariants.Undefined x
executed (Binary op) w ra rb M x = arithmetic_result (binary_result op ra rb x.flags) x
executed (Constant op) w ra rb M x = arithmetic_result (constant_result op x.rt (field_k w) x.flags) x
executed Ld w ra rb M x = loaded (word_at M (sum ra rb)) x
executed St w ra rb M x = storing (sum ra rb) x.rt x
executed (Unary op) w ra rb M x = arithmetic_result (unary_result op ra x.flags) x
executed Nop w ra rb M x = x
executed Halt w ra rb M x = stopping stop.TheVariants.Halted x
executed Ldsp w ra rb M x = to_sp ra x
executed Rts w ra rb M x = to_pc (word_at M (sum x.sp 1)) (to_sp (sum x.sp 1) x)
executed Pop w ra rb M x = to_rt (word_at M (sum x.sp 1)) (to_sp (sum x.sp 1) x)
executed Push w ra rb M x = pushed x.rt x
executed (Jump condition target) w ra rb M x = jumped (taken condition x.flags) (jump_target target w x.pc ra) x
executed (Call target) w ra rb M x = to_pc (call_target target w x.pc ra) (pushed x.pc x)
