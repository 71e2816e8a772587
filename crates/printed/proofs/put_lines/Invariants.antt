use Rattle.output.specs.Puts.{Puts}
use Rattle.printed.specs.Printed.{lines_text}
use Rattle.printed.proofs.put_lines.Given as goal

abbrev pub invariant-loop-row : goal.invariant-loop-row
invariant-loop-row l = Puts l.fn.page l.page (lines_text l.row-index l.fn.rows)
