-- Only contracts of private functions and proofs cite these: how run and step go, whole instructions where the budget allows, single cycles
-- elsewhere. That it comes to the cycles of Progress is proved in proofs/WholeInstructions.antt.
use Rattle.std.specs.Prelude.{Bool, false, cond, List, ℕ, zero, suc, ◌+◌, ◌-◌, leb, set}
use Rattle.words.specs.Arithmetic.{sum}
use Rattle.isa.specs.Fields.{field_t, field_b}
use Rattle.isa.specs.declared.Flags.{Flags}
use Rattle.isa.specs.declared.Kind.{Kind}
use Rattle.table.specs.Table.{kind_of}
use Rattle.effects.specs.Effect.{untouched}
use Rattle.effects.specs.Cycles.{stop_of, hidden_after, whole_instruction}
use Rattle.effects.specs.declared.Effect.{Effect}
use Rattle.effects.specs.declared.Executed.{Executed}
use Rattle.effects.specs.declared.Hidden.{Hidden}
use Rattle.effects.specs.declared.Stop.{Stop}
use Rattle.r8_core.specs.Cores.{with_hidden, with_clock, Visible, visible, with_visible, register, ra_of, rb_of}
use Rattle.r8_core.specs.Spent.{due_one}
use Rattle.r8_core.specs.Instruction.{word_due, takes}
use Rattle.r8_core.specs.Numbers.{is_going, longest}
use Rattle.r8_core.specs.Progress.{Progress, cycle_on, instruction_on}
use Rattle.r8_core.specs.declared.Core.{Core}
use Rattle.r8_core.specs.declared.Working.{Working}
use Rattle.r8_core.specs.declared.Moved.{Moved}

-- the state that whole instructions go by, of its parts, `left` being the cycles that are left of the budget: no other definition writes it out
abbrev pub working_of : ℕ → ℕ → Flags → Hidden → Stop → ℕ → Working
working_of pc sp flags hidden stop left =
    record { pc = pc; sp = sp; flags = flags; hidden = hidden; stop = stop; left = record { 0 = left } }

-- the state that whole instructions start from, with a budget b; what an instruction sees of state and bank; and the core of the two after
-- some cycles, with all else as it is in `core`
abbrev pub working_from : ℕ → Core → Working
working_from b core = working_of core.pc core.sp core.flags core.hidden core.stop b

abbrev pub seen : Working → List ℕ → Visible
seen s regs = visible regs s.pc s.sp s.flags s.stop

abbrev pub joined : Core → Working → List ℕ → ℕ → Core
joined core s regs used = with_clock (core.clock.0 + used) (with_hidden s.hidden (with_visible (seen s regs) core))

-- what an instruction can change, with PC one past it
abbrev pub effect_before_of : Working → ℕ → Effect
effect_before_of s rt = untouched rt (sum s.pc 1) s.sp s.flags s.stop

-- the instruction w by the table, on the registers that it names; and the state after it and its cycles
abbrev pub executed_of : Kind → ℕ → List ℕ → List ℕ → Working → Executed
executed_of k w regs M s =
    whole_instruction k w (ra_of w regs) (register regs (field_b w)) s.hidden M (effect_before_of s (register regs (field_t w)))

abbrev pub working_after : Kind → ℕ → List ℕ → Executed → ℕ → Working → Working
working_after k w regs done cycles s =
    working_of done.effect.pc done.effect.sp done.effect.flags
    (hidden_after (stop_of k) w (ra_of w regs) (rb_of k w regs) done.ralu s.hidden) done.effect.stop (s.left.0 - cycles)

-- the instruction at PC: what it does; state and bank after it
abbrev pub done_on : List ℕ → List ℕ → Working → Executed
done_on M regs s = executed_of (kind_of (word_due M (seen s regs))) (word_due M (seen s regs)) regs M s

abbrev pub working_on : List ℕ → List ℕ → Working → Working
working_on M regs s =
    working_after (kind_of (word_due M (seen s regs))) (word_due M (seen s regs)) regs (done_on M regs s) (takes M (seen s regs)) s

abbrev pub bank_on : List ℕ → List ℕ → Working → List ℕ
bank_on M regs s = set regs (field_t (word_due M (seen s regs))) (done_on M regs s).effect.rt

-- is the core going, and does the next instruction fit into what is left, whatever it costs?
abbrev pub has_room : Stop → ℕ → Bool
has_room stop left = cond (is_going stop) (leb longest left) false

-- at most n instructions, each where the core is going and what is left of b has room for one. With b for n there is no other bound, since each
-- takes 2 cycles or more
unfoldable pub instructions_on : ℕ → ℕ → Progress → Progress
instructions_on zero b p = p
instructions_on (suc n) b p = cond (has_room p.core.stop (b - p.used)) (instructions_on n b (instruction_on p)) p

-- a turn of run's loop with b cycles left, from a p that has used none: whole instructions, or else one cycle
abbrev pub instructions_or_cycle : ℕ → Progress → Progress
instructions_or_cycle b p = cond (leb longest b) (cond (due_one p.core) (instructions_on b b p) (cycle_on p)) (cycle_on p)

-- how far code has come, with the memory as it then is
abbrev pub reached : Moved → List ℕ → Progress
reached moved memory =
    record { core = moved.core; memory = memory; used = moved.cycles.0; finished = moved.instructions.0 }
