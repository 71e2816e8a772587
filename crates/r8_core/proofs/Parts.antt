-- The theorems `CoreParts` and `SpentExactly` of specs/Theorems.antt: by what setters and tests compute to. Assumes nothing.
use mathlib.Core.Path.{refl}
use Rattle.r8_core.specs.Theorems.{CoreParts, SpentExactly}
use Rattle.r8_core.proofs.Spent.{due_when, range_when, due_when_one, one_when_due, due_of_spent}

pub core_parts : CoreParts
core_parts regs n flags hidden stop c = (
  (refl, refl, refl, refl, refl, refl, refl, refl),
  (refl, refl, refl, refl, refl, refl, refl, refl),
  (refl, refl, refl, refl, refl, refl, refl, refl),
  (refl, refl, refl, refl, refl, refl, refl, refl),
  (refl, refl, refl, refl, refl, refl, refl, refl),
  (refl, refl, refl, refl, refl, refl, refl, refl),
  (refl, refl, refl, refl, refl, refl, refl, refl),
  (refl, refl, refl, refl, refl, refl, refl, refl),
)

pub spent_exactly : SpentExactly
spent_exactly core = (
  (due_when core, λ range. range_when core range.0 range.1),
  (due_when_one core, one_when_due core),
  due_of_spent core,
)
