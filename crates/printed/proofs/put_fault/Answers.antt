-- The number, then the offset.
use Rattle.std.proofs.Common.{rules}
use Rattle.output.proofs.Stores.{put_both}
use Rattle.printed.proofs.put_fault.Goals as goal

pub returns : goal.returns
returns c =
    (search rules, rw (← c.from.ensures, ← c.from-2.ensures) (put_both _ _ _ (put_both _ _ _ c.put_number.ensures.1 c.put_number-2.ensures.1) c.put.ensures.1))
