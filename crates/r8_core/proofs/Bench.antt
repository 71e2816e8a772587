-- The theorem `Bench` of specs/Theorems.antt: every row computes.
use mathlib.Core.Path.{refl}
use Rattle.isa.specs.Cost.{cost_of}
use Rattle.table.specs.Table.{table, place_of, kind_of}
use Rattle.r8_core.specs.Datapath.{later_cycle, due_cycle}
use Rattle.r8_core.specs.Instruction.{after, takes, step_transition}
use Rattle.r8_core.specs.Progress.{cycle_on, cycles_on}
use Rattle.r8_core.specs.Theorems.{Bench}

pub bench : Bench
unfolding cost_of table place_of kind_of later_cycle due_cycle after takes step_transition cycle_on cycles_on
bench = (
  (refl, refl),
  ((refl, refl), (refl, refl)),
  (refl, refl),
  ((refl, refl), (refl, refl)),
  ((refl, refl), (refl, refl)),
  ((refl, refl), (refl, refl)),
  (refl, refl),
  (refl, refl),
  (refl, refl),
  (refl, refl),
  (refl, refl),
)
