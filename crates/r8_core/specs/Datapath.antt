-- Document 01, 'Datapath cycles': one cycle on a core and a memory M.
use Rattle.std.specs.Prelude.{Bool, true, false, cond, List, ℕ, ◌+◌, eqb, leb, Option, None}
use Rattle.words.specs.Memory.{word_at}
use Rattle.words.specs.Arithmetic.{sum}
use Rattle.isa.specs.Cost.{cost_of}
use Rattle.isa.specs.declared.Kind.{Kind}
use Rattle.table.specs.Table.{kind_of}
use Rattle.alu.specs.declared.Outcome.{Outcome}
use Rattle.effects.specs.Hidden.{with_ir, with_ra_rb, with_ralu}
use Rattle.effects.specs.Cycles.{stop_of, calculated, written_back}
use Rattle.effects.specs.declared.Effect.{Effect}
use Rattle.effects.specs.declared.Stop.{Stop}
use Rattle.effects.specs.declared.Stop as stop
use Rattle.effects.specs.declared.Stop.TheVariants.{Going, Halted}
use Rattle.effects.specs.declared.Store.{Store}
use Rattle.r8_core.specs.Cores.{with_pc, with_flags, with_hidden, with_due, stopped, with_clock, visible_of, with_visible, ra_of, rb_of, effect_before, changed}
use Rattle.r8_core.specs.Numbers.{clock_full}
use Rattle.r8_core.specs.declared.Core.{Core}
use Rattle.r8_core.specs.declared.Transition.{Transition}

-- 1. 'IR takes M(PC); PC+1.'
abbrev pub fetched : List ℕ → Core → Core
fetched M core = with_hidden (with_ir (word_at M core.pc) core.hidden) (with_pc (sum core.pc 1) core)

-- 2. RA and RB are latched, by the fields of IR
abbrev pub latched : Kind → Core → Core
latched kind core =
    with_hidden (with_ra_rb (ra_of core.hidden.ir core.regs) (rb_of kind core.hidden.ir core.regs) core.hidden) core

-- 'HALT or undefined: stop .. Otherwise' the registers are latched
abbrev pub second : Stop → Kind → Core → Core
second Going kind core = latched kind core
second Halted kind core = stopped Halted core
second stop.TheVariants.Undefined kind core = stopped stop.TheVariants.Undefined core

-- 3. RALU takes the value, 'Flags change here'
abbrev pub with_result : Outcome → Core → Core
with_result outcome core = with_hidden (with_ralu outcome.value core.hidden) (with_flags outcome.flags core)

abbrev pub third : Kind → Core → Core
third kind core = with_result (calculated kind core.hidden (effect_before core.hidden.ir (visible_of core))) core

-- 4. Rt, PC, SP, flags and stop state as they come out; the store is the caller's
abbrev pub with_effect : Effect → Core → Core
with_effect effect core = with_visible (changed core.hidden.ir effect (visible_of core)) core

-- what cycle 4 writes back
abbrev pub fourth_effect : Kind → List ℕ → Core → Effect
fourth_effect kind M core = written_back kind core.hidden M (effect_before core.hidden.ir (visible_of core))

-- 'The last cycle of an instruction .. makes cycle 1 due'
abbrev pub due_after : Bool → ℕ → ℕ
due_after true due = 1
due_after false due = due + 1

-- 'Each cycle adds 1 to the clock'
abbrev pub ticked : Bool → Core → Core
ticked finished core = with_clock (core.clock.0 + 1) (with_due (due_after finished core.due) core)

abbrev pub transition : Bool → Core → Option Store → Transition
transition finished core store = record { core = ticked finished core; finished = finished; store = store }

-- no cycle is done
abbrev pub idle : Core → Transition
idle core = record { core = core; finished = false; store = None }

-- the cycle due is the last of the instruction in IR if that costs, under the core's flags, no more cycles than the number due
abbrev pub is_last : Kind → Core → Bool
is_last kind core = leb (cost_of kind core.flags) core.due

-- one cycle of a core with cycle 2, 3 or 4 due, by the instruction in IR. With another number due nothing happens: cycle 1 is done
-- below, and run refuses all others with 7
unfoldable pub later_cycle : Kind → List ℕ → Core → Transition
later_cycle kind M core =
    cond (eqb core.due 2) (transition (is_last kind core) (second (stop_of kind) kind core) None)
    (cond (eqb core.due 3) (transition (is_last kind core) (third kind core) None)
    (cond (eqb core.due 4) (transition (is_last kind core) (with_effect (fourth_effect kind M core) core) (fourth_effect kind M core).store)
    (idle core)))

-- one cycle, by the cycle due
unfoldable pub due_cycle : List ℕ → Core → Transition
due_cycle M core = cond (eqb core.due 1) (transition false (fetched M core) None) (later_cycle (kind_of core.hidden.ir) M core)

-- and of any core: one whose clock is full ('of 32 bits') does none, as one whose cycle due is none of 1 to 4
unfoldable pub cycle_or_idle : List ℕ → Core → Transition
cycle_or_idle M core = cond (clock_full core.clock.0 1) (idle core) (due_cycle M core)
