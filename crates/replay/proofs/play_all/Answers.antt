use Rattle.std.proofs.Common.{List, ℕ, ◌++◌, ◌/◌, ◌*◌, length, take, drop, sym, ap, ◌∙◌}
use Rattle.std.specs.Iterator.Adapters.{enumerate_source}
use Rattle.layout.specs.Layout.{onto_if_room, gave}
use Rattle.replay.specs.ReplayParts.{after_play}
use Rattle.replay.proofs.Readings.{next_cut}
use Rattle.replay.proofs.Plays.{next_is_call, goes_on, ends}
use Rattle.replay.proofs.play_all.Goals as goal

pub unwrap-call-requires : goal.unwrap-call-requires
unwrap-call-requires c =
    let l = c.loop-i in
    let cut = next_cut (enumerate_source l.i-iterator) (enumerate_source c.next.new.self) c.in-Some.chunk l.invariant.1 c.in-Some.ensures.steps.0 in
    next_is_call l.invariant.0 cut c.read_chunk.result c.read_chunk.ensures.value

-- one call more
pub loop-i-preserved : goal.loop-i-preserved
loop-i-preserved c =
    let l = c.loop-i in
    let steps = c.in-Some.ensures.steps in
    let cut = next_cut (enumerate_source l.i-iterator) (enumerate_source c.next.new.self) c.in-Some.chunk l.invariant.1 steps.0 in
    let call = c.unwrap-call in
    let played = c.play-played in (
      goes_on l.invariant.0 cut call.result (gave played.result played.new.memory) c.put_at.new.answers c.in-Some.i _ steps.1 steps.2
          (sym call.ensures ∙ c.read_chunk.ensures.value) played.ensures played.auto.memory c.put_at.ensures c.put_at.auto.answers,
      steps.0.0 ∙ l.invariant.1,
    )

-- the calls are over, and what they left is written
pub returns : goal.returns
returns c =
    let l = c.loop-i in
    let place = 23 * (length c.args.calls.now / 3) in
    ends l.invariant.0 c.in-None.ensures.steps.0.1.0
    ∙ ap (after_play l.memory)
    (ap (λ (numbers : List ℕ). take place l.answers ++ onto_if_room numbers (drop place l.answers)) (sym c.left_numbers.ensures)
    ∙ sym c.put_at-2.ensures)
