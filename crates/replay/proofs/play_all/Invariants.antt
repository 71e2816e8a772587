use Rattle.std.specs.Iterator.Adapters.{enumerate_source, enumerate_count}
use Rattle.std.specs.Slice.Iter.{chunks_rest, chunks_size}
use Rattle.std.specs.Prelude.{◌≡◌}
use Rattle.replay.proofs.Plays.{Reached}
use Rattle.replay.proofs.play_all.Given as goal

abbrev pub invariant-loop-i : goal.invariant-loop-i
invariant-loop-i l =
    Reached l.text l.calls l.fn.memory l.fn.answers l.core l.memory l.answers (enumerate_count l.i-iterator) (chunks_rest (enumerate_source l.i-iterator))
    × (chunks_size (enumerate_source l.i-iterator) ≡ 3)
