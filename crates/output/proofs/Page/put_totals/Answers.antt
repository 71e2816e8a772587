-- Cycles, then instructions, then the letter.
use Rattle.std.proofs.Common.{rules}
use Rattle.output.proofs.Stores.{put_both}
use Rattle.output.proofs.Page.put_totals.Goals as goal

pub returns : goal.returns
returns c =
    (search rules, put_both _ _ _ (put_both _ _ _ c.put_number.ensures.1 c.put_number-2.ensures.1) (put_both _ _ _ c.put.ensures.1 c.put-2.ensures.1))
