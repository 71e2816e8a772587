use Rattle.text.specs.Decimal.{decimal_text}
use Rattle.text.proofs.Digits.{Put}
use Rattle.text.proofs.decimal.Given as goal

abbrev pub invariant-loop-rest : goal.invariant-loop-rest
invariant-loop-rest l = Put (decimal_text l.fn.n) l.digits l.start l.rest

abbrev pub decreases-loop-rest : goal.decreases-loop-rest
decreases-loop-rest l = l.start
