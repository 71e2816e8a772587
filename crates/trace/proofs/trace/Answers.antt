-- By the listing's length, then by the load's answer.
use Rattle.std.proofs.Common.{◌∙◌}
use Rattle.std.specs.Prelude.{Err}
use Rattle.trace.specs.Trace.{trace_gave}
use Rattle.trace.proofs.Findings.{long_trace, stored_trace, ended_trace}
use Rattle.trace.proofs.trace.Goals as goal

pub returns-then-listing-gt65536 : goal.returns-then-listing-gt65536
returns-then-listing-gt65536 c = long_trace c.args.listing.now c.args.rows.now c.if-listing-gt65536.true

pub returns-in-Ok : goal.returns-in-Ok
returns-in-Ok c =
    let a = c.args in
    c.trace_memory.ensures
    ∙ stored_trace a.listing.now a.rows.now c.if-listing-gt65536.false c.load.result c.fresh.result _ c.load.ensures c.fresh.ensures _ c.in-Ok.is

pub returns-in-Err : goal.returns-in-Err
returns-in-Err c =
    let a = c.args in
    (λ j. trace_gave (Err (c.error_of.ensures j)) a.rows.now)
    ∙ ended_trace a.listing.now a.rows.now c.if-listing-gt65536.false c.load.result c.fresh.result _ c.load.ensures c.fresh.ensures _ c.in-Err.is
