-- Document 01, 'Instruction table', as one page: for each instruction what the call `step` gives, whole, where the word at PC has these digits. A
-- run of as many cycles gives the same but for the hidden registers (`StepTaken` of `r8_core`). Two statements, proved in proofs/Instructions.antt.
use Rattle.std.specs.Prelude.{◌≡◌, Bool, cond, List, ℕ, ◌+◌, ◌-◌, ◌*◌, ◌/◌, ◌%◌, ◌≤◌, ◌<◌, length, set, get_or}
use Rattle.std.specs.Int.Bits.{bit_and, bit_or, bit_xor}
use Rattle.alu.specs.declared.Outcome.{Outcome}
use Rattle.effects.specs.declared.Stop.TheVariants.{Going, Halted, Undefined}
use Rattle.r8_core.specs.Cores.{with_regs, with_pc, with_sp, with_flags}
use Rattle.r8_core.specs.Calls.{ran, Reply, step}
use Rattle.r8_core.specs.declared.Core.{Core}
use Rattle.r8_core.specs.declared.End.{End}
use Rattle.r8_core.specs.declared.End.TheVariants.{H, U, B}
use Rattle.effects.specs.declared.Stop.{Stop}
use Rattle.reference.specs.Notation.{word, NoInstruction, k, d10, d12, ◌⊕◌, ◌⊖◌, added, subtracted, NZ, plain, ◌▹◌}

-- 'Rt takes ..' a result with its flags, 'PC takes ..', 'SP takes ..', 'M(x) takes ..': all else stays. `set` changes one place of a list,
-- and none at or past its end: 'a write there is lost'
abbrev pub set_r : ℕ → Outcome → Reply → Reply
set_r t x s =
    record {
      answer = s.answer;
      core = with_flags x.flags (with_regs (set s.core.regs t x.value) s.core);
      memory = s.memory;
    }

abbrev pub set_pc : ℕ → Reply → Reply
set_pc x s = record { answer = s.answer; core = with_pc x s.core; memory = s.memory }

abbrev pub set_sp : ℕ → Reply → Reply
set_sp x s = record { answer = s.answer; core = with_sp x s.core; memory = s.memory }

abbrev pub set_m : ℕ → ℕ → Reply → Reply
set_m x v s = record { answer = s.answer; core = s.core; memory = set s.memory x v }

module _ (c : Core) (M : List ℕ) where
  -- what a step of n cycles gives: one instruction finished, and cycle 1 due. Only the clock and PC have moved, the hidden registers are
  -- zero, and the stop state and the end letter are given: 'HALT and undefined only set the stop state'
  abbrev pub ending : ℕ → Stop → End → Reply
  ending n stop end =
      record {
        answer = ran n 1 end;
        core =
            record {
              regs = c.regs;
              pc = c.pc ⊕ 1;
              sp = c.sp;
              flags = c.flags;
              hidden = record { ir = 0; ra = 0; rb = 0; ralu = 0 };
              due = 1;
              stop = stop;
              clock = record { 0 = c.clock.0 + n };
            };
        memory = M;
      }

  -- the core goes on
  abbrev pub next : ℕ → Reply
  next n = ending n Going B

  -- what the rows speak of, as it is before the instruction: Ri, M(x), which 'reads 0000' at or past L, and PC 'already one past the
  -- instruction'
  abbrev pub R : ℕ → ℕ
  R i = get_or c.regs i 0

  abbrev pub at : ℕ → ℕ
  at x = get_or M x 0

  abbrev pub PC : ℕ
  PC = c.pc ⊕ 1

  abbrev pub SP : ℕ
  SP = c.sp

  -- a result that sets N and Z, or no flag
  abbrev pub nz : ℕ → Outcome
  nz r = NZ c.flags r

  abbrev pub silent : ℕ → Outcome
  silent r = plain c.flags r

  -- a jump to x where the condition holds; a call of x, which 'stores PC at M(SP), then SP-1'
  abbrev pub jump : Bool → ℕ → Reply
  jump condition x = cond condition (next 4 ▹ set_pc x) (next 3)

  abbrev pub call : ℕ → Reply
  call x = next 4 ▹ set_m SP PC ▹ set_sp (SP ⊖ 1) ▹ set_pc x

  -- where the word w is at PC, a step gives s
  infix 10 ◌⟹◌
  abbrev pub ◌⟹◌ : ℕ → Reply → Type 0
  w ⟹ s = get_or M c.pc 0 ≡ w → step c M ≡ s

  -- for all digits t, a, b; u is bits 9-8 of D and E, and q bits 11-10 of D
  pub record Table (t a b u q : ℕ) : Type 0 where
    pub ADD : word 0x0 t a b ⟹ next 4 ▹ set_r t (added (R a) (R b))
    pub SUB : word 0x1 t a b ⟹ next 4 ▹ set_r t (subtracted (R a) (R b))
    pub AND : word 0x2 t a b ⟹ next 4 ▹ set_r t (nz (bit_and (R a) (R b)))
    pub OR : word 0x3 t a b ⟹ next 4 ▹ set_r t (nz (bit_or (R a) (R b)))
    pub XOR : word 0x4 t a b ⟹ next 4 ▹ set_r t (nz (bit_xor (R a) (R b)))
    pub ADDI : word 0x5 t a b ⟹ next 4 ▹ set_r t (added (R t) (k a b))
    pub SUBI : word 0x6 t a b ⟹ next 4 ▹ set_r t (subtracted (R t) (k a b))
    pub LDL : word 0x7 t a b ⟹ next 4 ▹ set_r t (silent (R t / 256 * 256 + k a b))
    pub LDH : word 0x8 t a b ⟹ next 4 ▹ set_r t (silent (k a b * 256 + R t % 256))
    pub LD : word 0x9 t a b ⟹ next 4 ▹ set_r t (silent (at (R a ⊕ R b)))
    pub ST : word 0xA t a b ⟹ next 4 ▹ set_m (R a ⊕ R b) (R t)
    pub SL0 : word 0xB t a 0x0 ⟹ next 4 ▹ set_r t (nz (R a * 2 % 65536))
    pub SL1 : word 0xB t a 0x1 ⟹ next 4 ▹ set_r t (nz ((R a * 2 + 1) % 65536))
    pub SR0 : word 0xB t a 0x2 ⟹ next 4 ▹ set_r t (nz (R a / 2))
    pub SR1 : word 0xB t a 0x3 ⟹ next 4 ▹ set_r t (nz (32768 + R a / 2))
    pub NOT : word 0xB t a 0x4 ⟹ next 4 ▹ set_r t (nz (65535 - R a))
    pub NOP : word 0xB t a 0x5 ⟹ next 3
    pub HALT : word 0xB t a 0x6 ⟹ ending 2 Halted H
    pub LDSP : word 0xB t a 0x7 ⟹ next 4 ▹ set_sp (R a)
    pub RTS : word 0xB t a 0x8 ⟹ next 4 ▹ set_pc (at (SP ⊕ 1)) ▹ set_sp (SP ⊕ 1)
    pub POP : word 0xB t a 0x9 ⟹ next 4 ▹ set_r t (silent (at (SP ⊕ 1))) ▹ set_sp (SP ⊕ 1)
    pub PUSH : word 0xB t a 0xA ⟹ next 4 ▹ set_m SP (R t) ▹ set_sp (SP ⊖ 1)
    pub JMPR : word 0xC t a 0x0 ⟹ next 4 ▹ set_pc (PC ⊕ R a)
    pub JMPNR : word 0xC t a 0x1 ⟹ jump c.flags.n (PC ⊕ R a)
    pub JMPZR : word 0xC t a 0x2 ⟹ jump c.flags.z (PC ⊕ R a)
    pub JMPCR : word 0xC t a 0x3 ⟹ jump c.flags.c (PC ⊕ R a)
    pub JMPVR : word 0xC t a 0x4 ⟹ jump c.flags.v (PC ⊕ R a)
    pub JMP : word 0xC t a 0x5 ⟹ next 4 ▹ set_pc (R a)
    pub JMPN : word 0xC t a 0x6 ⟹ jump c.flags.n (R a)
    pub JMPZ : word 0xC t a 0x7 ⟹ jump c.flags.z (R a)
    pub JMPC : word 0xC t a 0x8 ⟹ jump c.flags.c (R a)
    pub JMPV : word 0xC t a 0x9 ⟹ jump c.flags.v (R a)
    pub JSRR : word 0xC t a 0xA ⟹ call (PC ⊕ R a)
    pub JSR : word 0xC t a 0xB ⟹ call (R a)
    pub JMPD : word 0xD (q * 4 + u) a b ⟹ next 4 ▹ set_pc (PC ⊕ d10 u a b)
    pub JMPND : word 0xE (0x0 + u) a b ⟹ jump c.flags.n (PC ⊕ d10 u a b)
    pub JMPZD : word 0xE (0x4 + u) a b ⟹ jump c.flags.z (PC ⊕ d10 u a b)
    pub JMPCD : word 0xE (0x8 + u) a b ⟹ jump c.flags.c (PC ⊕ d10 u a b)
    pub JMPVD : word 0xE (0xC + u) a b ⟹ jump c.flags.v (PC ⊕ d10 u a b)
    pub JSRD : word 0xF t a b ⟹ call (PC ⊕ d12 t a b)
    pub undefined : (o : ℕ) → NoInstruction o b → word o t a b ⟹ ending 2 Undefined U

-- the page: on every memory of 1 to 65,536 words and every core of words that a step takes (proved as `instructions_exactly`)
abbrev pub InstructionsExactly : Type 0
InstructionsExactly =
    (c : Core) (M : List ℕ)
    → 1 ≤ length M
    → length M ≤ 65536
    → c.stop ≡ Going
    → c.due ≡ 1
    → c.clock.0 + 4 ≤ 4294967295
    → ((i : ℕ) → get_or c.regs i 0 < 65536)
    → (t a b u q : ℕ) → t < 16 → a < 16 → b < 16 → u < 4 → q < 4 → Table c M t a b u q

-- each word is written with four digits, and the digit t of D and E with q and u; that each o, and in B and C each b, has a row is seen on
-- the page (proved as `every_word`)
abbrev pub EveryWord : Type 0
EveryWord =
    ((w : ℕ) → w < 65536 → w ≡ word (w / 4096) (w / 256 % 16) (w / 16 % 16) (w % 16))
    × ((w : ℕ) → w < 65536 → (w / 4096 < 16) × (w / 256 % 16 < 16) × (w / 16 % 16 < 16) × (w % 16 < 16))
    × ((t : ℕ) → t < 16 → (t ≡ t / 4 * 4 + t % 4) × (t / 4 < 4) × (t % 4 < 4))
