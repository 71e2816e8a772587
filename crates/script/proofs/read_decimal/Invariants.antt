use Rattle.std.proofs.Common.{◌≡◌, ◌≤◌, drop}
use Rattle.script.specs.Commands.{decimal_from, decimal_of}
use Rattle.script.proofs.read_decimal.Given as goal

-- what is left, read on from the value so far, gives what the whole gives
abbrev pub invariant-loop-b : goal.invariant-loop-b
invariant-loop-b l = (decimal_of l.s ≡ decimal_from l.value (drop l.b-index l.s)) × (l.value ≤ 4294967295)
