-- What is put and what the instructions left give are the rows of all.
use Rattle.std.proofs.Common.{◌-◌, ◌*◌, sym, ◌∙◌, arith}
use Rattle.trace.proofs.Rows.{no_row_left, one_row}
use Rattle.trace.proofs.put_rows.Goals as goal

pub loop-i-preserved : goal.loop-i-preserved
loop-i-preserved c =
    let l = c.loop-i in
    l.invariant
    ∙ one_row c.args.count l.i l.core _ l.memory _ l.rows _ c.loop-i-test.true (omega arith) (c.copy_from_slice.ensures.after ∙ c.row.ensures.0, c.row.ensures.1, c.row.ensures.2)

pub returns : goal.returns
returns c =
    let l = c.loop-i in
    sym (l.invariant ∙ no_row_left (4 * l.i) (c.args.count - l.i) l.core l.memory l.rows (omega arith))
