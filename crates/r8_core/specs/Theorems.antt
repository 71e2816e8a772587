-- What a core's parts and its cycles spent are; what the engines come to: the cycles of an instruction do what the table says; a core that no
-- call made; the values of document 01's proof bench. Five statements, proved in proofs/Parts.antt, proofs/OneInstruction.antt,
-- proofs/Foreign.antt and proofs/Bench.antt.
use Rattle.std.specs.Prelude.{◌≡◌, ◌↔◌, Bool, true, false, List, ℕ, ◌+◌, ◌≤◌, ◌<◌, set, replicate, None}
use Rattle.words.specs.Memory.{word_at}
use Rattle.words.specs.Arithmetic.{sum}
use Rattle.isa.specs.Cost.{cost_of}
use Rattle.table.specs.Table.{kind_of}
use Rattle.isa.specs.declared.Flags.{Flags}
use Rattle.alu.specs.declared.Outcome.{Outcome}
use Rattle.effects.specs.Hidden.{with_ralu}
use Rattle.effects.specs.Cycles.{calculated}
use Rattle.effects.specs.declared.Hidden.{Hidden}
use Rattle.effects.specs.declared.Stop.{Stop}
use Rattle.effects.specs.declared.Stop.TheVariants.{Going, Undefined}
use Rattle.r8_core.specs.Cores.{fresh_core, with_regs, with_pc, with_sp, with_flags, with_hidden, with_due, stopped, with_clock, visible_of, register, ra_of, rb_of, effect_before}
use Rattle.r8_core.specs.Spent.{spent_of, due_in_range, due_one}
use Rattle.r8_core.specs.Datapath.{due_cycle}
use Rattle.r8_core.specs.Instruction.{past, takes, step_transition}
use Rattle.r8_core.specs.Progress.{Progress, starting, cycles_on, instruction_on}
use Rattle.r8_core.specs.declared.Core.{Core}

-- a core with these parts
abbrev pub Has : List ℕ → ℕ → ℕ → Flags → Hidden → ℕ → Stop → ℕ → Core → Type 0
Has regs pc sp flags hidden due stop clock core =
    (core.regs ≡ regs)
    × (core.pc ≡ pc)
    × (core.sp ≡ sp)
    × (core.flags ≡ flags)
    × (core.hidden ≡ hidden)
    × (core.due ≡ due)
    × (core.stop ≡ stop)
    × (core.clock.0 ≡ clock)

-- each setter of Cores sets its part and leaves all others, of every core: else a wrong one could stand on both sides of a statement (proved as
-- `core_parts`)
abbrev pub CoreParts : Type 0
CoreParts =
    (regs : List ℕ) (n : ℕ) (flags : Flags) (hidden : Hidden) (stop : Stop) (c : Core)
    → Has regs c.pc c.sp c.flags c.hidden c.due c.stop c.clock.0 (with_regs regs c)
    × Has c.regs n c.sp c.flags c.hidden c.due c.stop c.clock.0 (with_pc n c)
    × Has c.regs c.pc n c.flags c.hidden c.due c.stop c.clock.0 (with_sp n c)
    × Has c.regs c.pc c.sp flags c.hidden c.due c.stop c.clock.0 (with_flags flags c)
    × Has c.regs c.pc c.sp c.flags hidden c.due c.stop c.clock.0 (with_hidden hidden c)
    × Has c.regs c.pc c.sp c.flags c.hidden n c.stop c.clock.0 (with_due n c)
    × Has c.regs c.pc c.sp c.flags c.hidden c.due stop c.clock.0 (stopped stop c)
    × Has c.regs c.pc c.sp c.flags c.hidden c.due c.stop n (with_clock n c)

-- 'cycles spent .., compared with the cycle due less one'; 'cycle 1 is due when s is 0' (proved as `spent_exactly`)
abbrev pub SpentExactly : Type 0
SpentExactly =
    (core : Core)
    → ((due_in_range core ≡ true) ↔ ((1 ≤ core.due) × (core.due ≤ 4)))
    × ((due_one core ≡ true) ↔ (core.due ≡ 1))
    × (due_in_range core ≡ true → core.due ≡ spent_of core + 1)

-- what cycle 3 gives of the instruction that starts at p, from IR, RA and RB as latched
abbrev pub outcome_of : Progress → Core → Outcome
outcome_of p core =
    calculated (kind_of core.hidden.ir) (with_ralu p.core.hidden.ralu core.hidden)
    (effect_before core.hidden.ir (past (visible_of p.core)))

-- q is i cycles into the instruction that starts at p: nothing is stored, finished or stopped; registers and SP are as they were, and
-- so are the flags until cycle 3 is done; IR takes the word and PC moves one past it in cycle 1, RA and RB are latched in cycle 2, and RALU
-- and the flags are calculated in cycle 3
pub record Midway (i : ℕ) (p q : Progress) : Type 0 where
  pub memory : q.memory ≡ p.memory
  pub going : q.core.stop ≡ Going
  pub due : due_in_range q.core ≡ true
  pub spent : spent_of q.core ≡ i
  pub clock : q.core.clock.0 ≡ p.core.clock.0 + i
  pub used : q.used ≡ p.used + i
  pub finished : q.finished ≡ p.finished
  pub regs : q.core.regs ≡ p.core.regs
  pub sp : q.core.sp ≡ p.core.sp
  pub flags : i ≤ 2 → q.core.flags ≡ p.core.flags
  pub fetched : 1 ≤ i → (q.core.pc ≡ sum p.core.pc 1) × (q.core.hidden.ir ≡ word_at p.memory p.core.pc)
  pub latched :
      2 ≤ i
      → (q.core.hidden.ra ≡ ra_of q.core.hidden.ir p.core.regs)
      × (q.core.hidden.rb ≡ rb_of (kind_of q.core.hidden.ir) q.core.hidden.ir p.core.regs)
  pub early : i ≤ 1 → (q.core.hidden.ra ≡ p.core.hidden.ra) × (q.core.hidden.rb ≡ p.core.hidden.rb)
  pub idle : i ≤ 2 → q.core.hidden.ralu ≡ p.core.hidden.ralu
  pub calculated : 3 ≤ i → (q.core.hidden.ralu ≡ (outcome_of p q.core).value) × (q.core.flags ≡ (outcome_of p q.core).flags)

-- from every going core with cycle 1 due, as many cycles as the instruction at PC costs give exactly the core that it leaves (what the table
-- says, and the hidden registers), with its store made and one instruction more finished; fewer leave it midway (proved as
-- `one_instruction`)
abbrev pub OneInstruction : Type 0
OneInstruction =
    (p : Progress) → p.core.stop ≡ Going → due_one p.core ≡ true
    → ((i : ℕ) → i < takes p.memory (visible_of p.core) → Midway i p (cycles_on i p))
    × (cycles_on (takes p.memory (visible_of p.core)) p ≡ instruction_on p)

-- 'A core that no call made may have, in cycle 3 or 4, an IR word whose listed cost under its flags is below the cycle due. That cycle
-- finishes the instruction and changes nothing else but the clock': cycle 1 is due, as after every last cycle (proved as
-- `foreign_core`)
abbrev pub ForeignCore : Type 0
ForeignCore =
    (memory : List ℕ) (core : Core) → 3 ≤ core.due → core.due ≤ 4 → cost_of (kind_of core.hidden.ir) core.flags < core.due
    → due_cycle memory core
    ≡ record { core = with_clock (core.clock.0 + 1) (with_due 1 core); finished = true; store = None }

-- The bench: a core with p in R1, q in R2, PC at the word and zero elsewhere; the word is the last of a memory of zeros
abbrev pub bench_core : ℕ → ℕ → ℕ → Core
bench_core p q pc = with_pc pc (with_regs (set (set (replicate 16 0) 1 p) 2 q) fresh_core)

abbrev pub bench_memory : ℕ → ℕ → List ℕ
bench_memory word pc = set (replicate (pc + 1) 0) pc word

-- what a word does there, by four cycles of the datapath (fewer if the core stops) and by the instruction engine alike
abbrev pub Does : ℕ → ℕ → ℕ → ℕ → (Core → Type 0) → Type 0
Does word p q pc Claim =
    Claim (cycles_on 4 (starting (bench_core p q pc) (bench_memory word pc))).core
    × Claim (step_transition (bench_memory word pc) (bench_core p q pc)).core

-- with the word at 0000; and where a jump or call at `pc` goes
abbrev pub Gives : ℕ → ℕ → ℕ → (Core → Type 0) → Type 0
Gives word p q Claim = Does word p q 0 Claim

abbrev pub GoesTo : ℕ → ℕ → ℕ → Type 0
GoesTo word pc target = Does word 0 0 pc (λ core. core.pc ≡ target)

-- a register holds a value
abbrev pub Holds : ℕ → ℕ → Core → Type 0
Holds i value core = register core.regs i ≡ value

-- and NZCV are so
abbrev pub HoldsWith : ℕ → ℕ → Bool → Bool → Bool → Bool → Core → Type 0
HoldsWith i value n z c v core =
    (register core.regs i ≡ value) × (core.flags ≡ record { n = n; z = z; c = c; v = v })

-- 'Table to prove, together under a single theorem' (proved as `bench`)
abbrev pub Bench : Type 0
Bench =
    -- ADD 1008, 1234 = 223C; SUB 1008, 1234 = FDD4, NZCV 1000 (R3 from R1 and R2)
    Gives 0x0312 0x1008 0x1234 (Holds 3 0x223C)
    × Gives 0x1312 0x1008 0x1234 (HoldsWith 3 0xFDD4 true false false false)
    -- 1018 + k FF = 1117; FFFF + k FF = 00FE, NZCV 0010; 7FFF + k 01 = 8000, 1001; 8000 - k 01 = 7FFF, 0011 (R1)
    × Gives 0x51FF 0x1018 0 (Holds 1 0x1117)
    × Gives 0x51FF 0xFFFF 0 (HoldsWith 1 0x00FE false false true false)
    × Gives 0x5101 0x7FFF 0 (HoldsWith 1 0x8000 true false false true)
    × Gives 0x6101 0x8000 0 (HoldsWith 1 0x7FFF false false true true)
    -- SR1 of 9754 = CBAA (R3 from R1)
    × Gives 0xB313 0x9754 0 (Holds 3 0xCBAA)
    -- D3FF at 0010 goes to 0010; F013 at 0114 to 0128
    × GoesTo 0xD3FF 0x0010 0x0010
    × GoesTo 0xF013 0x0114 0x0128
    -- PUSH at SP 0000 leaves FFFF (of R1); B00B undefined
    × Gives 0xB10A 0 0 (λ core. core.sp ≡ 0xFFFF)
    × Gives 0xB00B 0 0 (λ core. core.stop ≡ Undefined)
