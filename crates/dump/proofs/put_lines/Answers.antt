use Rattle.std.proofs.Common.{rules}
use Rattle.dump.proofs.Writes.{line_put}
use Rattle.dump.proofs.put_lines.Goals as goal

pub loop-i-preserved : goal.loop-i-preserved
loop-i-preserved c =
    let a = c.args in
    let l = c.loop-i in
    line_put a.memory.now a.text.now l.text _ a.first a.count l.i l.invariant (search rules) c.put_line.ensures
