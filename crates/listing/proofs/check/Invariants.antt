-- The lines that are left give the rest of what all give.
use Rattle.std.proofs.Common.{◌≡◌, ◌+◌, ◌≤◌, length}
use Rattle.lines.specs.Lines.{lines}
use Rattle.lines.specs.Walk.{read_lines, lines_left}
use Rattle.listing.specs.Listing.{words_in}
use Rattle.listing.proofs.Turns.{faults, counts}
use Rattle.listing.proofs.check.Given as goal

abbrev pub invariant-loop-offset : goal.invariant-loop-offset
invariant-loop-offset l =
    (goal.iterator-loop-offset).can_next l.offset-iterator
    × (goal.iterator-loop-offset).is_finite l.offset-iterator
    × (faults l.limit 0 (read_lines 0 (lines l.listing)) ≡ faults l.limit l.lowest (lines_left l.offset-iterator))
    × (words_in (lines l.listing) ≡ l.count + counts (lines_left l.offset-iterator))
    × (l.count + counts (lines_left l.offset-iterator) ≤ length l.listing)
