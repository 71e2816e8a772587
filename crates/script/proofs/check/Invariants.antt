use Rattle.std.proofs.Common.{◌≡◌, ◌≤◌, ◌+◌, ◌-◌, length}
use Rattle.script.specs.Script.{script_of}
use Rattle.script.specs.ScriptParts.{script_at, Within, verdict_of}
use Rattle.script.proofs.Turns.{verdict_from}
use Rattle.script.proofs.check.Given as goal

-- from the start reached, the rest of the lines gives what all give; a line takes a byte or more, so that the count fits
abbrev pub invariant-loop-start : goal.invariant-loop-start
invariant-loop-start l =
    (verdict_of (script_of l.text) ≡ verdict_from l.count (script_at l.text l.start)) × Within l.text l.start × (l.count ≤ l.start.at)

abbrev pub decreases-loop-start : goal.decreases-loop-start
decreases-loop-start l = length l.text + 1 - l.start.at
