use Rattle.std.proofs.Common.{sym, ap, ◌∙◌, arith}
use Rattle.script.specs.Script.{script_of}
use Rattle.script.proofs.Turns.{reads_end, verdict_from, verdict_starts, verdict_ends}
use Rattle.script.proofs.check.Goals as goal

pub loop-start-init : goal.loop-start-init
unfolding script_of
loop-start-init c = (verdict_starts (script_of c.args.text.now), (omega arith, omega arith), omega arith)

pub returns : goal.returns
returns c =
    let l = c.loop-start in
    c.at_end.ensures
    ∙ sym
    (l.invariant.0
    ∙ ap (verdict_from l.count) (reads_end c.args.text.now l.start c.loop-start-test.false)
    ∙ verdict_ends l.count l.start.place)
