use Rattle.std.proofs.Common.{◌≡◌, ◌*◌, ◌++◌, drop}
use Rattle.dump.specs.Dump.{listing_text}
use Rattle.dump.proofs.put_lines.Given as goal

-- the lines so far, and what was behind them
abbrev pub invariant-loop-i : goal.invariant-loop-i
invariant-loop-i l = l.text ≡ listing_text l.memory l.first l.i ++ drop (10 * l.i) l.fn.text
