use Rattle.std.proofs.Common.{ℕ, Bool, length, sym, ap, ◌∙◌}
use Rattle.refusals.specs.Verdicts.{verdict_number}
use Rattle.effects.specs.Hidden.{no_hidden}
use Rattle.r8_core.specs.Cores.{with_hidden}
use Rattle.r8_core.specs.Spent.{due_one}
use Rattle.r8_core.specs.Numbers.{longest, run_number, step_number}
use Rattle.r8_core.specs.Calls.{ran, step, end_of}
use Rattle.r8_core.proofs.Refusals.{ready}
use Rattle.r8_core.proofs.Replies.{refused_reply, step_starts}
use Rattle.r8_core.proofs.WholeInstructions.{just_one, as_step}
use Rattle.r8_core.proofs.Core.step.Goals as goal

pub returns-in-Err : goal.returns-in-Err
unfolding step step_number
returns-in-Err c =
    let a = c.args in
    let at : Bool → ℕ = λ ready. run_number (length a.memory.now) a.self.stop ready a.self.clock.0 longest in
    let number = c.run_verdict.ensures ∙ ap at c.one_due.ensures in
    refused_reply _ c.in-Err.why a.self a.memory.now _ (sym (ap verdict_number c.in-Err.is) ∙ number)

pub instructions-one-requires : goal.instructions-one-requires
instructions-one-requires c =
    let a = c.args in
    let at : Bool → ℕ = λ ready. run_number (length a.memory.now) a.self.stop ready a.self.clock.0 longest in
    let ready = ready _ _ _ _ _ (sym (c.run_verdict.ensures ∙ ap at c.one_due.ensures) ∙ ap verdict_number c.in_default.is) in
    (ready.due, ready.room)

pub returns : goal.returns
returns c =
    let a = c.args in
    let at : Bool → ℕ = λ ready. run_number (length a.memory.now) a.self.stop ready a.self.clock.0 longest in
    let none = sym (c.run_verdict.ensures ∙ ap at c.one_due.ensures) ∙ ap verdict_number c.in_default.is in
    let going = (ready _ _ _ _ _ none).going in
    let one = c.instructions-one.ensures ∙ just_one a.self a.memory.now going in
    let core = c.without_hidden-self.ensures ∙ (λ j. with_hidden no_hidden (one j).core) in
    let end = c.end.ensures ∙ (λ j. end_of (core j).stop (due_one (core j))) in
    (λ j. record { answer = ran (one j).used (one j).finished (end j); core = core j; memory = (one j).memory })
    ∙ as_step a.self a.memory.now
    ∙ sym (step_starts a.self a.memory.now none)
