use Rattle.std.proofs.Common.{◌≡◌, ℕ, ◌-◌, Bool, length, sym, ap, ◌∙◌, arith}
use Rattle.std.proofs.lemmas.Result.{err_from_is_err_and}
use Rattle.r8_core.specs.Numbers.{run_number}
use Rattle.r8_core.specs.Calls.{ran, ran_reply, run}
use Rattle.r8_core.specs.Progress.{cycles_on}
use Rattle.r8_core.proofs.Refusals.{ready}
use Rattle.r8_core.proofs.Cycles.{none_more}
use Rattle.r8_core.proofs.Replies.{refused_reply, run_starts, run_over}
use Rattle.r8_core.proofs.WholeInstructions.{onward}
use Rattle.r8_core.proofs.Core.ran.Invariants.{progress}
use Rattle.r8_core.proofs.Core.ran.Goals as goal
use Rattle.r8_core.proofs.Core.ran.Goals.{then-loop-used-test+else-is_going, else-loop-used-test}

pub returns-in_err-run_verdict : goal.returns-in_err-run_verdict
unfolding run
returns-in_err-run_verdict c =
    let a = c.args in
    let at : Bool → ℕ = λ ready. run_number (length a.memory.now) a.self.now.stop ready a.self.now.clock.0 a.b in
    let p = err_from_is_err_and c.from_residual.result c.from_residual.ensures.1 in
    rw (p.1, p.2) (refused_reply _ _ a.self.now a.memory.now _ (c.in_err-run_verdict.ensures ∙ ap at c.due_in_range.ensures))

pub loop-used-init : goal.loop-used-init
loop-used-init c =
    let a = c.args in
    let at : Bool → ℕ = λ ready. run_number (length a.memory.now) a.self.now.stop ready a.self.now.clock.0 a.b in
    let none = sym (c.in_ok-run_verdict.ensures ∙ ap at c.due_in_range.ensures) in
    let ready = ready _ _ _ _ _ none in
    record {
      left = run_starts a.b a.self.now a.memory.now none;
      few = omega arith;
      within = omega arith;
      room = omega (arith, ready.room);
      due = ready.due;
    }

pub overflow_add-used : goal.overflow_add-used
overflow_add-used c =
    let l = c.loop-used in
    let on =
    onward _ (progress l.self l.memory l.used.0 l.finished.0) _ (sym c.is_going.ensures ∙ c.if-is_going.true)
    c.loop-used-test.true l.invariant.due c.instructions_or_cycle-moved.ensures in
    omega (arith, on.below, on.most)

pub overflow_add-finished : goal.overflow_add-finished
overflow_add-finished c =
    let l = c.loop-used in
    let on =
    onward _ (progress l.self l.memory l.used.0 l.finished.0) _ (sym c.is_going.ensures ∙ c.if-is_going.true)
    c.loop-used-test.true l.invariant.due c.instructions_or_cycle-moved.ensures in
    omega (arith, on.below, on.most, on.few, l.invariant.few)

pub loop-used-smaller : goal.loop-used-smaller
loop-used-smaller c =
    let l = c.loop-used in
    let on =
    onward _ (progress l.self l.memory l.used.0 l.finished.0) _ (sym c.is_going.ensures ∙ c.if-is_going.true)
    c.loop-used-test.true l.invariant.due c.instructions_or_cycle-moved.ensures in
    omega (arith, on.below, on.some)

pub loop-used-preserved : goal.loop-used-preserved
loop-used-preserved c =
    let l = c.loop-used in
    let on =
    onward _ (progress l.self l.memory l.used.0 l.finished.0) _ (sym c.is_going.ensures ∙ c.if-is_going.true)
    c.loop-used-test.true l.invariant.due c.instructions_or_cycle-moved.ensures in
    rw c.by_fields.ensures record {
      left = l.invariant.left ∙ ap ran_reply on.left;
      few = omega (arith, on.few, l.invariant.few);
      within = omega (arith, on.below, on.most);
      room = omega (arith, on.below, on.most, on.clock, l.invariant.room);
      due = on.due;
    }

pub returns : goal.returns
returns c =
    let l = c.loop-used in
    let p = progress l.self l.memory l.used.0 l.finished.0 in
    let over : cycles_on (c.args.b - l.used.0) p ≡ p =
    elim c.loop-used-test.branch [
      | then-loop-used-test+else-is_going w ↦ none_more _ p (sym w.is_going.ensures ∙ w.if-is_going.false)
      | else-loop-used-test w ↦ run_over _ p w.loop-used-test.false
    ] in
    (λ j. record { answer = ran l.used.0 l.finished.0 (c.end.ensures j); core = l.self; memory = l.memory }) ∙ sym (l.invariant.left ∙ ap ran_reply over)
