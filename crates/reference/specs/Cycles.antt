-- Document 01, 'Datapath cycles', as one page: what the method `cycle` gives, whole, in cycle 1, and in cycles 2, 3 and 4 for each instruction, of every
-- core that has the cycle due and the word with these digits in IR, a core that no call made too. How run is made of cycles is said by
-- `RunByCycles` and `RunAgain` of `r8_core`. One statement, proved in proofs/Cycles.antt.
use Rattle.std.specs.Prelude.{◌≡◌, Bool, true, false, cond, List, ℕ, ◌+◌, ◌-◌, ◌*◌, ◌/◌, ◌%◌, ◌<◌, set, get_or, Some, None}
use Rattle.std.specs.Int.Bits.{bit_and, bit_or, bit_xor}
use Rattle.alu.specs.declared.Outcome.{Outcome}
use Rattle.effects.specs.Hidden.{with_ir, with_ra_rb, with_ralu}
use Rattle.effects.specs.declared.Stop.{Stop}
use Rattle.effects.specs.declared.Stop.TheVariants.{Halted, Undefined}
use Rattle.r8_core.specs.Cores.{with_regs, with_pc, with_sp, with_flags, with_hidden, with_due, stopped, with_clock}
use Rattle.r8_core.specs.Datapath.{cycle_or_idle}
use Rattle.r8_core.specs.declared.Core.{Core}
use Rattle.r8_core.specs.declared.Transition.{Transition}
use Rattle.reference.specs.Notation.{word, NoInstruction, k, d10, d12, ◌⊕◌, ◌⊖◌, added, subtracted, NZ, plain, ◌▹◌}

-- what a cycle gives with another core, or with 'M(x) takes ..'
abbrev pub on : (Core → Core) → Transition → Transition
on change s = record { core = change s.core; finished = s.finished; store = s.store }

abbrev pub set_m : ℕ → ℕ → Transition → Transition
set_m x v s = record { core = s.core; finished = s.finished; store = Some (record { address = x; word = v }) }

-- 'Rt takes ..', 'PC takes ..', 'SP takes ..', 'RALU takes ..' with the flags; 'IR takes ..'; 'RA takes ..; RB takes ..'; 'stop'
abbrev pub set_r : ℕ → ℕ → Transition → Transition
set_r t x = on (λ c. with_regs (set c.regs t x) c)

abbrev pub set_pc : ℕ → Transition → Transition
set_pc x = on (with_pc x)

abbrev pub set_sp : ℕ → Transition → Transition
set_sp x = on (with_sp x)

abbrev pub set_ralu : Outcome → Transition → Transition
set_ralu x = on (λ c. with_flags x.flags (with_hidden (with_ralu x.value c.hidden) c))

abbrev pub set_ir : ℕ → Transition → Transition
set_ir w = on (λ c. with_hidden (with_ir w c.hidden) c)

abbrev pub set_rab : ℕ → ℕ → Transition → Transition
set_rab p q = on (λ c. with_hidden (with_ra_rb p q c.hidden) c)

abbrev pub set_stop : Stop → Transition → Transition
set_stop stop = on (stopped stop)

module _ (c : Core) (M : List ℕ) where
  -- 'Each cycle adds 1 to the clock': the core is else as it was, with that cycle due; or 'The last cycle .. counts it as finished and makes
  -- cycle 1 due'
  abbrev pub due : ℕ → Transition
  due n = record { core = with_clock (c.clock.0 + 1) (with_due n c); finished = false; store = None }

  abbrev pub ends : Transition
  ends = record { core = with_clock (c.clock.0 + 1) (with_due 1 c); finished = true; store = None }

  -- what the rows speak of, as it is before the cycle; PC is one past the instruction from cycle 2 on
  abbrev pub R : ℕ → ℕ
  R i = get_or c.regs i 0

  abbrev pub at : ℕ → ℕ
  at x = get_or M x 0

  abbrev pub PC : ℕ
  PC = c.pc

  abbrev pub SP : ℕ
  SP = c.sp

  abbrev pub RA : ℕ
  RA = c.hidden.ra

  abbrev pub RB : ℕ
  RB = c.hidden.rb

  abbrev pub RALU : ℕ
  RALU = c.hidden.ralu

  -- cycle 2: 'RA takes Ra', and RB takes the register i
  abbrev pub latch : ℕ → ℕ → Transition
  latch a i = due 3 ▹ set_rab (R a) (R i)

  -- cycle 3: RALU takes a result, with its flags, with N and Z, or with none
  abbrev pub alu : Outcome → Transition
  alu x = due 4 ▹ set_ralu x

  abbrev pub nz : ℕ → Transition
  nz r = alu (NZ c.flags r)

  abbrev pub value : ℕ → Transition
  value r = alu (plain c.flags r)

  -- of a jump to x: where the condition does not hold, it ends here
  abbrev pub aim : Bool → ℕ → Transition
  aim condition x = cond condition (value x) (ends ▹ set_ralu (plain c.flags x))

  -- cycle 4: 'Rt takes RALU'; of a jump, where the condition holds at that moment, 'PC takes RALU'; of a call, 'M(SP) takes PC, SP-1, PC
  -- takes RALU'
  abbrev pub back : ℕ → Transition
  back t = ends ▹ set_r t RALU

  abbrev pub jump : Bool → Transition
  jump condition = cond condition (ends ▹ set_pc RALU) ends

  abbrev pub call : Transition
  call = ends ▹ set_m SP PC ▹ set_sp (SP ⊖ 1) ▹ set_pc RALU

  -- with w in IR, cycles 2, 3 and 4 give these
  pub record Row (w : ℕ) (two three four : Transition) : Type 0 where
    pub second : c.hidden.ir ≡ w → c.due ≡ 2 → cycle_or_idle M c ≡ two
    pub third : c.hidden.ir ≡ w → c.due ≡ 3 → cycle_or_idle M c ≡ three
    pub fourth : c.hidden.ir ≡ w → c.due ≡ 4 → cycle_or_idle M c ≡ four

  -- for all digits t, a, b; u is bits 9-8 of D and E, and q bits 11-10 of D. A row's word, then its cycles 2, 3 and 4
  pub record Cycles (t a b u q : ℕ) : Type 0 where
    pub fetch : c.due ≡ 1 → cycle_or_idle M c ≡ due 2 ▹ set_ir (at PC) ▹ set_pc (PC ⊕ 1)
    pub ADD : Row (word 0x0 t a b) (latch a b) (alu (added RA RB)) (back t)
    pub SUB : Row (word 0x1 t a b) (latch a b) (alu (subtracted RA RB)) (back t)
    pub AND : Row (word 0x2 t a b) (latch a b) (nz (bit_and RA RB)) (back t)
    pub OR : Row (word 0x3 t a b) (latch a b) (nz (bit_or RA RB)) (back t)
    pub XOR : Row (word 0x4 t a b) (latch a b) (nz (bit_xor RA RB)) (back t)
    pub ADDI : Row (word 0x5 t a b) (latch a t) (alu (added RB (k a b))) (back t)
    pub SUBI : Row (word 0x6 t a b) (latch a t) (alu (subtracted RB (k a b))) (back t)
    pub LDL : Row (word 0x7 t a b) (latch a t) (value (RB / 256 * 256 + k a b)) (back t)
    pub LDH : Row (word 0x8 t a b) (latch a t) (value (k a b * 256 + RB % 256)) (back t)
    pub LD : Row (word 0x9 t a b) (latch a b) (value (RA ⊕ RB)) (ends ▹ set_r t (at RALU))
    pub ST : Row (word 0xA t a b) (latch a b) (value (RA ⊕ RB)) (ends ▹ set_m RALU (R t))
    pub SL0 : Row (word 0xB t a 0x0) (latch a 0x0) (nz (RA * 2 % 65536)) (back t)
    pub SL1 : Row (word 0xB t a 0x1) (latch a 0x1) (nz ((RA * 2 + 1) % 65536)) (back t)
    pub SR0 : Row (word 0xB t a 0x2) (latch a 0x2) (nz (RA / 2)) (back t)
    pub SR1 : Row (word 0xB t a 0x3) (latch a 0x3) (nz (32768 + RA / 2)) (back t)
    pub NOT : Row (word 0xB t a 0x4) (latch a 0x4) (nz (65535 - RA)) (back t)
    pub NOP : Row (word 0xB t a 0x5) (latch a 0x5) ends ends
    pub HALT : Row (word 0xB t a 0x6) (ends ▹ set_stop Halted) ends ends
    pub LDSP : Row (word 0xB t a 0x7) (latch a 0x7) (value RA) (ends ▹ set_sp RALU)
    pub RTS : Row (word 0xB t a 0x8) (latch a 0x8) (value (SP ⊕ 1)) (ends ▹ set_pc (at RALU) ▹ set_sp RALU)
    pub POP : Row (word 0xB t a 0x9) (latch a 0x9) (value (SP ⊕ 1)) (ends ▹ set_r t (at RALU) ▹ set_sp RALU)
    pub PUSH : Row (word 0xB t a 0xA) (latch a t) (value RB) (ends ▹ set_m SP RB ▹ set_sp (SP ⊖ 1))
    pub JMPR : Row (word 0xC t a 0x0) (latch a 0x0) (value (PC ⊕ RA)) (ends ▹ set_pc RALU)
    pub JMPNR : Row (word 0xC t a 0x1) (latch a 0x1) (aim c.flags.n (PC ⊕ RA)) (jump c.flags.n)
    pub JMPZR : Row (word 0xC t a 0x2) (latch a 0x2) (aim c.flags.z (PC ⊕ RA)) (jump c.flags.z)
    pub JMPCR : Row (word 0xC t a 0x3) (latch a 0x3) (aim c.flags.c (PC ⊕ RA)) (jump c.flags.c)
    pub JMPVR : Row (word 0xC t a 0x4) (latch a 0x4) (aim c.flags.v (PC ⊕ RA)) (jump c.flags.v)
    pub JMP : Row (word 0xC t a 0x5) (latch a 0x5) (value RA) (ends ▹ set_pc RALU)
    pub JMPN : Row (word 0xC t a 0x6) (latch a 0x6) (aim c.flags.n RA) (jump c.flags.n)
    pub JMPZ : Row (word 0xC t a 0x7) (latch a 0x7) (aim c.flags.z RA) (jump c.flags.z)
    pub JMPC : Row (word 0xC t a 0x8) (latch a 0x8) (aim c.flags.c RA) (jump c.flags.c)
    pub JMPV : Row (word 0xC t a 0x9) (latch a 0x9) (aim c.flags.v RA) (jump c.flags.v)
    pub JSRR : Row (word 0xC t a 0xA) (latch a 0xA) (value (PC ⊕ RA)) call
    pub JSR : Row (word 0xC t a 0xB) (latch a 0xB) (value RA) call
    pub JMPD : Row (word 0xD (q * 4 + u) a b) (latch a b) (value (PC ⊕ d10 u a b)) (ends ▹ set_pc RALU)
    pub JMPND : Row (word 0xE (0x0 + u) a b) (latch a b) (aim c.flags.n (PC ⊕ d10 u a b)) (jump c.flags.n)
    pub JMPZD : Row (word 0xE (0x4 + u) a b) (latch a b) (aim c.flags.z (PC ⊕ d10 u a b)) (jump c.flags.z)
    pub JMPCD : Row (word 0xE (0x8 + u) a b) (latch a b) (aim c.flags.c (PC ⊕ d10 u a b)) (jump c.flags.c)
    pub JMPVD : Row (word 0xE (0xC + u) a b) (latch a b) (aim c.flags.v (PC ⊕ d10 u a b)) (jump c.flags.v)
    pub JSRD : Row (word 0xF t a b) (latch a b) (value (PC ⊕ d12 t a b)) call
    pub undefined : (o : ℕ) → NoInstruction o b → Row (word o t a b) (ends ▹ set_stop Undefined) ends ends

-- the page: of every core whose clock has room for a cycle and whose RA and RB are words, also one that is stopped, on every memory (proved as
-- `cycles_exactly`)
abbrev pub CyclesExactly : Type 0
CyclesExactly =
    (c : Core) (M : List ℕ) → c.clock.0 < 4294967295 → c.hidden.ra < 65536 → c.hidden.rb < 65536
    → (t a b u q : ℕ) → t < 16 → a < 16 → b < 16 → u < 4 → q < 4 → Cycles c M t a b u q
