use Rattle.text.proofs.Digits.{put_first, put_other}
use Rattle.text.proofs.decimal.Goals as goal

pub returns-then-rest-lt10 : goal.returns-then-rest-lt10
returns-then-rest-lt10 c =
    let l = c.loop-rest in
    put_first _ l.digits l.rest _ c.last_digit.ensures l.start l.invariant c.if-rest-lt10.true

pub loop-rest-preserved : goal.loop-rest-preserved
loop-rest-preserved c =
    let l = c.loop-rest in
    put_other _ l.digits l.rest _ c.last_digit.ensures l.start l.invariant c.if-rest-lt10.false
