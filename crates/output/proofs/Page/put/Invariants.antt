use Rattle.std.proofs.Common.{take}
use Rattle.output.specs.Puts.{Puts}
use Rattle.output.proofs.Page.put.Given as goal

abbrev pub invariant-loop-byte : goal.invariant-loop-byte
invariant-loop-byte l = Puts l.fn.self l.self (take l.byte-index l.bytes)
