-- What follows the spaces is the same from each place passed.
use Rattle.std.proofs.Common.{◌≡◌, length}
use Rattle.lines.specs.Lines.{after_spaces}
use Rattle.lines.proofs.after_spaces.Given as goal

abbrev pub invariant-loop-rest : goal.invariant-loop-rest
invariant-loop-rest l = after_spaces l.s ≡ after_spaces l.rest

abbrev pub decreases-loop-rest : goal.decreases-loop-rest
decreases-loop-rest l = length l.rest
