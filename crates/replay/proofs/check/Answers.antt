use Rattle.std.proofs.Common.{Err, sym, ap, ◌∙◌, arith}
use Rattle.std.specs.Iterator.Adapters.{enumerate_source}
use Rattle.replay.specs.declared.ReplayError.{ReplayError}
use Rattle.replay.proofs.Readings.{next_cut, fails, passes, ends_with_room, ends_without}
use Rattle.replay.proofs.check.Goals as goal

pub returns-in-Err : goal.returns-in-Err
returns-in-Err c =
    let l = c.loop-i in
    let steps = c.in-Some.ensures.steps in
    ap (λ (e : ReplayError). Err e) c.fault_at.ensures
    ∙ sym
    (fails l.invariant.0 (next_cut (enumerate_source l.i-iterator) (enumerate_source c.next.new.self) c.in-Some.chunk l.invariant.1 steps.0) c.in-Err.why c.in-Some.i steps.1
    (sym c.in-Err.is ∙ c.read_chunk.ensures.value))

-- one call more
pub loop-i-preserved : goal.loop-i-preserved
loop-i-preserved c =
    let l = c.loop-i in
    let steps = c.in-Some.ensures.steps in
    let call = c.in_default in (
      passes l.invariant.0 (next_cut (enumerate_source l.i-iterator) (enumerate_source c.next.new.self) c.in-Some.chunk l.invariant.1 steps.0) call.field-0 _ steps.2 (sym call.is ∙ c.read_chunk.ensures.value),
      steps.0.0 ∙ l.invariant.1,
    )

pub returns-then-room-count : goal.returns-then-room-count
returns-then-room-count c =
    sym (ends_without c.loop-i.invariant.0 c.in-None.ensures.steps.0.1.0 (omega (arith, c.if-room-count.true)))

pub returns : goal.returns
returns c = sym (ends_with_room c.loop-i.invariant.0 c.in-None.ensures.steps.0.1.0 (omega (arith, c.if-room-count.false)))
