use Rattle.std.proofs.Common.{◌≡◌, ◌-◌, ◌*◌, ◌++◌, drop}
use Rattle.trace.specs.Trace.{rows_of}
use Rattle.trace.proofs.Rows.{under}
use Rattle.trace.proofs.put_rows.Given as goal

-- the rows put, and those of the instructions left, give the rows of all
abbrev pub invariant-loop-i : goal.invariant-loop-i
invariant-loop-i l =
    rows_of l.fn.count l.fn.core l.fn.memory ++ drop (4 * l.fn.count) l.fn.rows ≡ under (4 * l.i) (l.count - l.i) l.core l.memory l.rows
