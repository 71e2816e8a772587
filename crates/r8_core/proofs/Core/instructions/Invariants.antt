use Rattle.std.proofs.Common.{◌≡◌, ℕ, ◌-◌, ◌≤◌, List, length}
use Rattle.r8_core.specs.Progress.{Progress, starting}
use Rattle.r8_core.specs.WholeInstructions.{instructions_on}
use Rattle.r8_core.specs.declared.Core.{Core}
use Rattle.r8_core.specs.declared.Working.{Working}
use Rattle.r8_core.proofs.WholeInstructions.{under}
use Rattle.r8_core.proofs.Core.instructions.Given as goal

-- instructions of a budget b under way, with some more of those that are asked
pub record Underway (whole : Progress) (core : Core) (before : List ℕ) (most b : ℕ) (state : Working) (regs memory : List ℕ) (more : ℕ) : Type 0 where
  pub rest : whole ≡ instructions_on more b (under core state regs memory b (most - more))
  pub some : more ≤ most
  pub bank : length regs ≡ 16
  pub within : state.left.0 ≤ b

abbrev pub invariant-loop-regs : goal.invariant-loop-regs
invariant-loop-regs l =
    Underway (instructions_on l.fn.most l.fn.b (starting l.fn.self l.fn.memory)) l.fn.self l.fn.memory l.fn.most l.fn.b l.state l.regs l.memory l.more

abbrev pub decreases-loop-regs : goal.decreases-loop-regs
decreases-loop-regs l = l.more
