-- Document 01, 'Core and memory': what a core holds, one part at a time, what an instruction sees of it, and the fresh core. No other
-- definition writes a core out.
use Rattle.std.specs.Prelude.{false, List, ℕ, get_or, set, replicate}
use Rattle.isa.specs.Fields.{field_t, field_a, field_b}
use Rattle.isa.specs.Control.{second_register}
use Rattle.isa.specs.declared.Kind.{Kind}
use Rattle.isa.specs.declared.Flags.{Flags}
use Rattle.effects.specs.Effect.{untouched}
use Rattle.effects.specs.Hidden.{no_hidden}
use Rattle.effects.specs.declared.Effect.{Effect}
use Rattle.effects.specs.declared.Hidden.{Hidden}
use Rattle.effects.specs.declared.Stop.{Stop}
use Rattle.effects.specs.declared.Stop.TheVariants.{Going}
use Rattle.r8_core.specs.declared.Core.{Core}

-- 'A fresh or reset core has zero everywhere, is going, and has cycle 1 due'
abbrev pub fresh_core : Core
fresh_core =
    record {
      regs = replicate 16 0;
      pc = 0;
      sp = 0;
      flags = record { n = false; z = false; c = false; v = false };
      hidden = no_hidden;
      due = 1;
      stop = Going;
      clock = record { 0 = 0 };
    }

-- a core with one part set
abbrev pub with_regs : List ℕ → Core → Core
with_regs regs c =
    record { regs = regs; pc = c.pc; sp = c.sp; flags = c.flags; hidden = c.hidden; due = c.due; stop = c.stop; clock = c.clock }

abbrev pub with_pc : ℕ → Core → Core
with_pc pc c =
    record { regs = c.regs; pc = pc; sp = c.sp; flags = c.flags; hidden = c.hidden; due = c.due; stop = c.stop; clock = c.clock }

abbrev pub with_sp : ℕ → Core → Core
with_sp sp c =
    record { regs = c.regs; pc = c.pc; sp = sp; flags = c.flags; hidden = c.hidden; due = c.due; stop = c.stop; clock = c.clock }

abbrev pub with_flags : Flags → Core → Core
with_flags flags c =
    record { regs = c.regs; pc = c.pc; sp = c.sp; flags = flags; hidden = c.hidden; due = c.due; stop = c.stop; clock = c.clock }

abbrev pub with_hidden : Hidden → Core → Core
with_hidden hidden c =
    record { regs = c.regs; pc = c.pc; sp = c.sp; flags = c.flags; hidden = hidden; due = c.due; stop = c.stop; clock = c.clock }

abbrev pub with_due : ℕ → Core → Core
with_due due c =
    record { regs = c.regs; pc = c.pc; sp = c.sp; flags = c.flags; hidden = c.hidden; due = due; stop = c.stop; clock = c.clock }

abbrev pub stopped : Stop → Core → Core
stopped stop c =
    record { regs = c.regs; pc = c.pc; sp = c.sp; flags = c.flags; hidden = c.hidden; due = c.due; stop = stop; clock = c.clock }

abbrev pub with_clock : ℕ → Core → Core
with_clock clock c =
    record { regs = c.regs; pc = c.pc; sp = c.sp; flags = c.flags; hidden = c.hidden; due = c.due; stop = c.stop; clock = record { 0 = clock } }

-- what an instruction sees and changes beside memory: R0 to R15, PC, SP, the flags N, Z, C, V, and the stop state
pub record Visible : Type 0 where
  pub regs : List ℕ
  pub pc : ℕ
  pub sp : ℕ
  pub flags : Flags
  pub stop : Stop

abbrev pub visible : List ℕ → ℕ → ℕ → Flags → Stop → Visible
visible regs pc sp flags stop = record { regs = regs; pc = pc; sp = sp; flags = flags; stop = stop }

abbrev pub visible_of : Core → Visible
visible_of core = visible core.regs core.pc core.sp core.flags core.stop

-- 'zero everywhere, .. going'
abbrev pub fresh_visible : Visible
fresh_visible = visible_of fresh_core

abbrev pub with_visible : Visible → Core → Core
with_visible v core = stopped v.stop (with_flags v.flags (with_sp v.sp (with_pc v.pc (with_regs v.regs core))))

-- the word in a register; and what the word w of a kind has cycle 2 latch: 'RA takes Ra; RB takes Rt for ADDI, SUBI, LDL, LDH, PUSH, else
-- Rb'
abbrev pub register : List ℕ → ℕ → ℕ
register regs i = get_or regs i 0

abbrev pub ra_of : ℕ → List ℕ → ℕ
ra_of w regs = register regs (field_a w)

abbrev pub rb_of : Kind → ℕ → List ℕ → ℕ
rb_of kind w regs = register regs (second_register kind (field_t w) (field_b w))

-- what the instruction w can change of what it sees, as it is before; Rt is the register that the field t of w names
abbrev pub effect_before : ℕ → Visible → Effect
effect_before w v = untouched (register v.regs (field_t w)) v.pc v.sp v.flags v.stop

-- what it sees, after its effect
abbrev pub changed : ℕ → Effect → Visible → Visible
changed w effect v =
    visible (set v.regs (field_t w) effect.rt) effect.pc effect.sp effect.flags effect.stop
