use Rattle.std.proofs.Common.{◌≡◌, ℕ, ◌+◌, ◌-◌, ◌≤◌, true, List}
use Rattle.r8_core.specs.Spent.{due_in_range}
use Rattle.r8_core.specs.Progress.{Progress, cycles_on}
use Rattle.r8_core.specs.Calls.{Reply, ran_reply, run}
use Rattle.r8_core.specs.declared.Core.{Core}
use Rattle.r8_core.proofs.Core.ran.Given as goal

-- a run of b cycles under way: the cycles left give the reply of the whole
pub record Reached (reply : Reply) (b : ℕ) (p : Progress) : Type 0 where
  pub left : reply ≡ ran_reply (cycles_on (b - p.used) p)
  pub few : p.finished ≤ p.used
  pub within : p.used ≤ b
  pub room : p.core.clock.0 + (b - p.used) ≤ 4294967295
  pub due : due_in_range p.core ≡ true

abbrev pub progress : Core → List ℕ → ℕ → ℕ → Progress
progress core memory used finished = record { core = core; memory = memory; used = used; finished = finished }

abbrev pub invariant-loop-used : goal.invariant-loop-used
invariant-loop-used l =
    Reached (run l.fn.b l.fn.self l.fn.memory) l.fn.b (progress l.self l.memory l.used.0 l.finished.0)

abbrev pub decreases-loop-used : goal.decreases-loop-used
decreases-loop-used l = l.b - l.used.0
