-- By the run's answer, which is no refusal.
use Rattle.trace.proofs.Findings.{run_not_refused, room_lacks, rows_put}
use Rattle.trace.proofs.trace_memory.Goals as goal

pub returns-in_default : goal.returns-in_default
returns-in_default c =
    let a = c.args in
    absurd (run_not_refused a.memory.now a.rows.now c.run.result c.fresh-core.result _ c.run.ensures c.fresh-core.ensures _ c.told-memory c.in_default.is)

pub returns-then-rows-count : goal.returns-then-rows-count
returns-then-rows-count c =
    let a = c.args in
    room_lacks a.memory.now a.rows.now c.run.result c.fresh-core.result _ c.run.ensures c.fresh-core.ensures c.in-Ok.ran c.in-Ok.is c.if-rows-count.true

pub returns : goal.returns
returns c =
    let a = c.args in
    rows_put a.memory.now a.rows.now c.run.result c.fresh-core.result _ c.run.ensures c.fresh-core.ensures c.in-Ok.ran c.in-Ok.is _ c.if-rows-count.false c.put_rows.ensures
