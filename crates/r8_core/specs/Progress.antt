-- Document 01, 'run of b datapath cycles, fewer if the core stops': a core and a memory under way, by cycles and by an instruction.
use Rattle.std.specs.Prelude.{cond, List, ℕ, zero, suc, ◌+◌}
use Rattle.words.specs.Arithmetic.{bit}
use Rattle.effects.specs.Effect.{applied}
use Rattle.r8_core.specs.Cores.{visible_of}
use Rattle.r8_core.specs.Datapath.{due_cycle}
use Rattle.r8_core.specs.Instruction.{memory_after, takes, core_after}
use Rattle.r8_core.specs.Numbers.{is_going}
use Rattle.r8_core.specs.declared.Core.{Core}
use Rattle.r8_core.specs.declared.Transition.{Transition}

-- core, memory, cycles used, instructions finished
pub record Progress : Type 0 where
  pub core : Core
  pub memory : List ℕ
  pub used : ℕ
  pub finished : ℕ

abbrev pub starting : Core → List ℕ → Progress
starting core memory = record { core = core; memory = memory; used = 0; finished = 0 }

-- p after a cycle that gave this transition; and after the cycle due
abbrev pub after_cycle : Transition → Progress → Progress
after_cycle transition p =
    record {
      core = transition.core;
      memory = applied transition.store p.memory;
      used = p.used + 1;
      finished = p.finished + bit transition.finished;
    }

unfoldable pub cycle_on : Progress → Progress
cycle_on p = after_cycle (due_cycle p.memory p.core) p

-- after b cycles, fewer if the core stops
unfoldable pub cycles_on : ℕ → Progress → Progress
cycles_on zero p = p
cycles_on (suc b) p = cond (is_going p.core.stop) (cycles_on b (cycle_on p)) p

-- past the instruction at PC
unfoldable pub instruction_on : Progress → Progress
instruction_on p =
    record {
      core = core_after p.memory p.core;
      memory = memory_after p.memory (visible_of p.core);
      used = p.used + takes p.memory (visible_of p.core);
      finished = p.finished + 1;
    }
