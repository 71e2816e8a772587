use Rattle.std.proofs.Common.{◌+◌, ◌-◌, length}
use Rattle.script.specs.ScriptParts.{Within}
use Rattle.script.proofs.Writes.{Reached}
use Rattle.script.proofs.write_calls.Given as goal

-- the calls left, from where the writing has come, give what all give
abbrev pub invariant-loop-start : goal.invariant-loop-start
invariant-loop-start l = Within l.text l.start × Reached l.text l.fn.calls l.start l.to l.calls

abbrev pub decreases-loop-start : goal.decreases-loop-start
decreases-loop-start l = length l.text + 1 - l.start.at
