use Rattle.std.proofs.Common.{ap, ◌∙◌}
use Rattle.script.specs.Commands.{run_of}
use Rattle.script.proofs.Words.{with_run, with_listing, with_neither}
use Rattle.script.proofs.read_with_numbers.Goals as goal

pub returns-in-Some : goal.returns-in-Some
returns-in-Some c =
    let run = c.in-Some.ensures.cases in
    c.run_of.ensures ∙ ap run_of c.read_decimal.ensures ∙ with_run c.args.line.now c.in-Some.rest.now run.0 run.1

pub returns-in-Some-strip_prefix : goal.returns-in-Some-strip_prefix
returns-in-Some-strip_prefix c =
    let listing = c.in-Some-strip_prefix.ensures.cases in
    c.read_listing.ensures ∙ with_listing c.args.line.now c.in-Some-strip_prefix.rest.now c.in_default.ensures.cases listing.0 listing.1

pub returns : goal.returns
returns c = with_neither c.args.line.now c.in_default.ensures.cases c.in_default-strip_prefix.ensures.cases
