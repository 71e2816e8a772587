-- Document 01, 'Calls and the instruction machine': the instruction machine, with a state and calls of its own.
use Rattle.std.specs.Prelude.{Bool, true, false, cond, List, [], ◌∷◌, ℕ, zero, suc, ◌+◌, ◌-◌, eqb, leb, length}
use Rattle.isa.specs.declared.Flags.{Flags}
use Rattle.listing.specs.Listing.{listing_answer, listing_memory}
use Rattle.effects.specs.declared.Stop.{Stop}
use Rattle.effects.specs.declared.Stop.TheVariants.{Going, Halted, Undefined}
use Rattle.r8_core.specs.Cores.{Visible, fresh_visible}
use Rattle.r8_core.specs.Instruction.{word_due, after, memory_after, word_takes, takes}
use Rattle.r8_core.specs.Numbers.{is_going, load_number, run_number, step_number, view_number}
use Rattle.r8_core.specs.Calls.{Answer, done, ran, viewed, refused, end_of, load_answer}

-- a finished instruction: its word, and the flags under which it was executed
pub record Logged : Type 0 where
  pub word : ℕ
  pub flags : Flags

-- the cycles of the instructions of a log, each what it takes by its word and flags
unfoldable pub cycles_of : List Logged → ℕ
cycles_of [] = 0
cycles_of (x ∷ rest) = word_takes x.word x.flags + cycles_of rest

-- 'R0 to R15, PC, SP, flags, .. stop state' (`visible`), 'memory, .. clock T, and s, cycles spent (0 to 3)'; and a log of the instructions
-- finished since the last reset, or the start, the last one first, so that the clock can be stated as a sum
pub record Machine : Type 0 where
  pub visible : Visible
  pub memory : List ℕ
  pub clock : ℕ
  pub spent : ℕ
  pub log : List Logged

-- 'It starts fresh on the same memory'
abbrev pub fresh_machine : List ℕ → Machine
fresh_machine memory = record { visible = fresh_visible; memory = memory; clock = 0; spent = 0; log = [] }

-- what a call answers, and the machine after it; with a number other than 0 it is refused and changes nothing
abbrev pub unless : ℕ → Machine → Answer × Machine → Answer × Machine
unless number m reply = cond (eqb number 0) reply (refused number, m)

-- 'for 7 and the end letter, cycle 1 is due when s is 0, otherwise one of 2 to 4'
abbrev pub none_spent : Machine → Bool
none_spent m = eqb m.spent 0

-- 'Reset: all zero but memory, going.'
unfoldable pub reset : Machine → Answer × Machine
reset m = (done, fresh_machine m.memory)

abbrev pub with_memory : List ℕ → Machine → Machine
with_memory memory m =
    record { visible = m.visible; memory = memory; clock = m.clock; spent = m.spent; log = m.log }

-- 'Load and view: as above.'
abbrev pub loaded : List ℕ → Machine → Answer × Machine
loaded text m = (load_answer (listing_answer text (length m.memory)), with_memory (listing_memory text m.memory) m)

unfoldable pub load : List ℕ → Machine → Answer × Machine
load text m = unless (load_number (length m.memory) (none_spent m)) m (loaded text m)

unfoldable pub view : Machine → Answer × Machine
view m = unless (view_number (none_spent m)) m (viewed m.visible (m.spent + 1) m.clock, m)

-- the loop of a run: t is what is left of s+b
pub record Loop : Type 0 where
  pub visible : Visible
  pub memory : List ℕ
  pub t : ℕ
  pub finished : ℕ
  pub log : List Logged

-- 'while going and the cost c of the instruction at PC is at most t'
abbrev pub goes_on : Loop → Bool
goes_on x = cond (is_going x.visible.stop) (leb (takes x.memory x.visible) x.t) false

-- the instruction at PC, for the log
abbrev pub logged : List ℕ → Visible → Logged
logged memory v = record { word = word_due memory v; flags = v.flags }

-- 'execute it and take c from t'; 'Each one executed is one finished, HALT and undefined too.'
abbrev pub after_one : Loop → Loop
after_one x =
    record {
      visible = after x.memory x.visible;
      memory = memory_after x.memory x.visible;
      t = x.t - takes x.memory x.visible;
      finished = x.finished + 1;
      log = logged x.memory x.visible ∷ x.log;
    }

-- `fuel` bounds the turns: an instruction takes a cycle at least, so that t of them are enough
unfoldable pub looped : ℕ → Loop → Loop
looped zero x = x
looped (suc fuel) x = cond (goes_on x) (looped fuel (after_one x)) x

-- 'let t = s+b'
abbrev pub loop_start : ℕ → Machine → Loop
loop_start b m =
    record { visible = m.visible; memory = m.memory; t = m.spent + b; finished = 0; log = m.log }

abbrev pub loop_of : ℕ → Machine → Loop
loop_of b m = looped (m.spent + b) (loop_start b m)

-- 'If stopped, used is b-t and s is 0; else used is b and s is t.'
abbrev pub used : Stop → ℕ → ℕ → ℕ
used Going b t = b
used Halted b t = b - t
used Undefined b t = b - t

abbrev pub spent_after : Stop → ℕ → ℕ
spent_after Going t = t
spent_after Halted t = 0
spent_after Undefined t = 0

-- 'T grows by used.'
abbrev pub ran_reply : ℕ → ℕ → Loop → Answer × Machine
ran_reply b clock x = (
  ran (used x.visible.stop b x.t) x.finished
      (end_of x.visible.stop (eqb (spent_after x.visible.stop x.t) 0)),
  record {
    visible = x.visible;
    memory = x.memory;
    clock = clock + used x.visible.stop b x.t;
    spent = spent_after x.visible.stop x.t;
    log = x.log;
  },
)

-- 'Run: ..'. s is 0 to 3, so that the cycle due is one of 1 to 4, as a run wants it (`true`), and 7 never applies
unfoldable pub run : ℕ → Machine → Answer × Machine
run b m =
    unless (run_number (length m.memory) m.visible.stop true m.clock b) m (ran_reply b m.clock (loop_of b m))

-- 'Step: one instruction, T grows by its cost.'
abbrev pub stepped : Machine → Answer × Machine
stepped m = (
  ran (takes m.memory m.visible) 1 (end_of (after m.memory m.visible).stop true),
  record {
    visible = after m.memory m.visible;
    memory = memory_after m.memory m.visible;
    clock = m.clock + takes m.memory m.visible;
    spent = 0;
    log = logged m.memory m.visible ∷ m.log;
  },
)

unfoldable pub step : Machine → Answer × Machine
step m = unless (step_number (length m.memory) m.visible.stop (none_spent m) m.clock) m (stepped m)
