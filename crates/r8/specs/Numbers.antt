-- A core as numbers: 22 words, R0 to R15, PC, SP, IR, RA, RB, RALU; and four numbers, 8N+4Z+2C+V, stop state, cycle due, clock.
use Rattle.std.specs.Prelude.{Bool, cond, ◌&&◌, List, [], ◌∷◌, ◌++◌, ℕ, eqb, leb, length, get_or, take}
use Rattle.effects.specs.declared.Stop.{Stop}
use Rattle.effects.specs.declared.Stop.TheVariants.{Going, Halted, Undefined}
use Rattle.effects.specs.Hidden.{no_hidden, with_ir, with_ra_rb, with_ralu}
use Rattle.effects.specs.declared.Hidden.{Hidden}
use Rattle.r8_core.specs.Cores.{fresh_core, with_regs, with_pc, with_sp, with_flags, with_hidden, with_due, stopped, with_clock}
use Rattle.r8_core.specs.declared.Core.{Core}
use Rattle.layout.specs.Layout.{flags_number, flags_of, stop_number}

abbrev pub registers_size : ℕ
registers_size = 22

abbrev pub state_size : ℕ
state_size = 4

abbrev pub registers_of : Core → List ℕ
registers_of core =
    core.regs
    ++ (core.pc ∷ core.sp ∷ core.hidden.ir ∷ core.hidden.ra ∷ core.hidden.rb ∷ core.hidden.ralu ∷ [])

abbrev pub state_of : Core → List ℕ
state_of core = flags_number core.flags ∷ stop_number core.stop ∷ core.due ∷ core.clock.0 ∷ []

-- back: that nothing is lost is said in Theorems
abbrev pub stop_of : ℕ → Stop
stop_of n = cond (eqb n 0) Going (cond (eqb n 1) Halted Undefined)

abbrev pub hidden_of : List ℕ → Hidden
hidden_of registers =
    with_ralu (get_or registers 21 0)
    (with_ra_rb (get_or registers 19 0) (get_or registers 20 0) (with_ir (get_or registers 18 0) no_hidden))

abbrev pub core_of : List ℕ → List ℕ → Core
core_of registers state =
    with_regs (take 16 registers)
    (with_pc (get_or registers 16 0)
    (with_sp (get_or registers 17 0)
    (with_hidden (hidden_of registers)
    (with_flags (flags_of (get_or state 0 0))
    (stopped (stop_of (get_or state 1 0)) (with_due (get_or state 2 0) (with_clock (get_or state 3 0) fresh_core)))))))

-- are they a core's: their counts, flags of four bits, a stop state, a cycle due of a byte
unfoldable pub is_core : List ℕ → List ℕ → Bool
is_core registers state =
    eqb (length registers) registers_size
    && (eqb (length state) state_size
    && (leb (get_or state 0 0) 15 && (leb (get_or state 1 0) 2 && leb (get_or state 2 0) 255)))
