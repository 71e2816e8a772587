use Rattle.std.proofs.Common.{arith}
use Rattle.script.proofs.Turns.{reads_end}
use Rattle.script.proofs.Writes.{starts, goes_on_lem, ended}
use Rattle.script.proofs.write_calls.Goals as goal

pub loop-start-init : goal.loop-start-init
loop-start-init c = ((omega arith, omega arith), starts c.args.text.now c.args.calls.now c.requires)

pub loop-start-preserved : goal.loop-start-preserved
loop-start-preserved c =
    let l = c.loop-start in
    let line = c.read_line-line in
    let put = c.put_call-to.ensures in
    (line.ensures.goes.1, rw (put.place, put.calls) (goes_on_lem l.invariant.1 line.result.meaning l.start.number line.ensures.reads).1)

pub returns : goal.returns
returns c = ended c.loop-start.invariant.1 (reads_end c.args.text.now c.loop-start.start c.loop-start-test.false)
