-- A byte more each time.
use Rattle.std.proofs.Common.{refl, rules, arith}
use Rattle.std.proofs.Math.Seq.{take_all}
use Rattle.output.specs.Page.{put_on}
use Rattle.output.proofs.Stores.{put_one}
use Rattle.output.proofs.Page.put.Goals as goal

pub loop-byte-init : goal.loop-byte-init
unfolding put_on
loop-byte-init c = (refl, refl)

pub loop-byte-preserved : goal.loop-byte-preserved
loop-byte-preserved c =
    let l = c.loop-byte in
    (search rules, put_one _ c.args.bytes.now l.byte-index l.invariant.1 (omega arith) (search rules) c.put_byte.ensures.1)

pub returns : goal.returns
returns c =
    let l = c.loop-byte in
    rw (← take_all l.byte-index c.args.bytes.now (omega arith)) l.invariant
