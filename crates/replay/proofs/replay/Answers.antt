use Rattle.replay.specs.Replay.{read_calls}
use Rattle.replay.proofs.Replayed.{as_played}
use Rattle.replay.proofs.replay.Goals as goal

pub returns : goal.returns
returns c =
    let a = c.args in
    as_played (read_calls a.text.now a.calls.now) a.memory.now a.answers.now c.check.result c.check.ensures c.in_ok-count.count _ _ c.in_ok-count.was c.play_all.ensures
