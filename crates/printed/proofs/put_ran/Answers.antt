-- The lines, then the totals.
use Rattle.std.proofs.Common.{rules}
use Rattle.output.proofs.Stores.{put_both}
use Rattle.printed.proofs.put_ran.Goals as goal

pub returns : goal.returns
returns c =
    (search rules, put_both _ _ _ c.put_lines.ensures.1 (rw (← c.letter.ensures, ← c.from.ensures, ← c.from-2.ensures) (put_both _ _ _ c.put_totals.ensures.1 c.put.ensures.1)))
