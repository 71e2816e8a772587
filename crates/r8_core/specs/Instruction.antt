-- Document 01, 'Calls and the instruction machine': 'One instruction: PC+1, then the table', by the instruction engine.
use Rattle.std.specs.Prelude.{true, List, ℕ, ◌+◌}
use Rattle.words.specs.Memory.{word_at}
use Rattle.words.specs.Arithmetic.{sum}
use Rattle.isa.specs.Fields.{field_b}
use Rattle.isa.specs.Cost.{cost_of}
use Rattle.isa.specs.declared.Flags.{Flags}
use Rattle.isa.specs.declared.Kind.{Kind}
use Rattle.table.specs.Table.{kind_of}
use Rattle.effects.specs.Effect.{applied}
use Rattle.effects.specs.Table.{executed}
use Rattle.effects.specs.Hidden.{no_hidden, with_ir, with_ra_rb}
use Rattle.effects.specs.Cycles.{stop_of, calculated, hidden_after}
use Rattle.effects.specs.declared.Effect.{Effect}
use Rattle.effects.specs.declared.Hidden.{Hidden}
use Rattle.r8_core.specs.Cores.{with_hidden, with_due, with_clock, Visible, visible, visible_of, with_visible, register, ra_of, rb_of, effect_before, changed}
use Rattle.r8_core.specs.declared.Core.{Core}
use Rattle.r8_core.specs.declared.Transition.{Transition}

-- the word at PC
abbrev pub word_due : List ℕ → Visible → ℕ
word_due M v = word_at M v.pc

-- 'PC+1'
abbrev pub past : Visible → Visible
past v = visible v.regs (sum v.pc 1) v.sp v.flags v.stop

-- 'then the table'
abbrev pub executed_on : Kind → ℕ → List ℕ → Visible → Effect
executed_on kind w M v = executed kind w (ra_of w v.regs) (register v.regs (field_b w)) M (effect_before w v)

abbrev pub effect_of : ℕ → List ℕ → Visible → Effect
effect_of w M v = executed_on (kind_of w) w M (past v)

-- registers, PC, SP, flags and stop state after the instruction at PC; and the memory after it
unfoldable pub after : List ℕ → Visible → Visible
after M v = changed (word_due M v) (effect_of (word_due M v) M v) v

unfoldable pub memory_after : List ℕ → Visible → List ℕ
memory_after M v = applied (effect_of (word_due M v) M v).store M

-- what an instruction takes, by its word and the flags before it: its cost in cycles; and what the one at PC takes
abbrev pub word_takes : ℕ → Flags → ℕ
word_takes w flags = cost_of (kind_of w) flags

unfoldable pub takes : List ℕ → Visible → ℕ
takes M v = word_takes (word_due M v) v.flags

-- the core after the instruction at PC, from cycle 1 due to cycle 1 due, with h in its hidden registers: what an instruction changes, by
-- the table, and the clock on by what it takes
abbrev pub finished_with : Hidden → List ℕ → Core → Core
finished_with h M core =
    with_clock (core.clock.0 + takes M (visible_of core))
    (with_due 1 (with_hidden h (with_visible (after M (visible_of core)) core)))

-- the value that cycle 3 gives RALU for w: what RALU holds, where there is no cycle 3 (HALT, undefined) or it gives nothing (NOP)
abbrev pub result_of : ℕ → Core → ℕ
result_of w core =
    (calculated (kind_of w) (with_ra_rb (ra_of w core.regs) (rb_of (kind_of w) w core.regs) (with_ir w core.hidden))
    (effect_before w (past (visible_of core)))
    ).value

-- the core after the instruction w that is at PC, with its hidden registers as the cycles leave them
abbrev pub core_after_word : ℕ → List ℕ → Core → Core
core_after_word w M core =
    finished_with
    (hidden_after (stop_of (kind_of w)) w (ra_of w core.regs) (rb_of (kind_of w) w core.regs) (result_of w core) core.hidden)
    M core

unfoldable pub core_after : List ℕ → Core → Core
core_after M core = core_after_word (word_due M (visible_of core)) M core

-- the instruction engine on a core with cycle 1 due: 'hidden registers become zero'
unfoldable pub step_transition : List ℕ → Core → Transition
step_transition M core =
    record {
      core = finished_with no_hidden M core;
      finished = true;
      store = (effect_of (word_due M (visible_of core)) M (visible_of core)).store;
    }
