-- Storing the lines that are left into the memory reached is storing all into the first.
use Rattle.std.proofs.Common.{◌≡◌}
use Rattle.lines.specs.Lines.{lines}
use Rattle.lines.specs.Walk.{lines_left}
use Rattle.listing.specs.Listing.{store_lines}
use Rattle.listing.proofs.Turns.{stores}
use Rattle.listing.proofs.store_lines.Given as goal

abbrev pub invariant-loop-line : goal.invariant-loop-line
invariant-loop-line l =
    (goal.iterator-loop-line).can_next l.line-iterator
    × (goal.iterator-loop-line).is_finite l.line-iterator
    × (store_lines (lines l.listing) l.fn.memory ≡ stores (lines_left l.line-iterator) l.memory)
