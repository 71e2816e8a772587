use Rattle.std.proofs.Common.{ℕ, drop, sym, ap, ◌∙◌, arith}
use Rattle.lines.specs.Lines.{ends}
use Rattle.lines.proofs.Places.{to_end}
use Rattle.script.proofs.Decimals.{digits_counted, no_digit, no_decimal, some_digit, from_zero, too_far, one_further, all_digits}
use Rattle.script.proofs.read_decimal.Goals.{then-n-eq0-via-then-n-eq0, then-n-eq0-via-else-n-eq0+then-not-line_ends}
use Rattle.script.proofs.read_decimal.Goals as goal

pub returns-then-n-eq0 : goal.returns-then-n-eq0
returns-then-n-eq0 c =
    let s = c.args.s.now in
    let count = c.count_digits-n.ensures.count ∙ digits_counted s in
    elim c.then-n-eq0.branch [
      | then-n-eq0-via-then-n-eq0 w ↦ no_digit s (sym count ∙ w.if-n-eq0.true)
      | then-n-eq0-via-else-n-eq0+then-not-line_ends w ↦
          no_decimal s (ap (λ (n : ℕ). ends (drop n s)) (sym count) ∙ sym (w.line_ends.ensures ∙ ap ends (to_end s c.count_digits-n.result)) ∙ w.if-not-line_ends.true)
    ]

pub loop-b-init : goal.loop-b-init
loop-b-init c =
    let s = c.args.s.now in
    (some_digit s (λ e. c.if-n-eq0.false (c.count_digits-n.ensures.count ∙ digits_counted s ∙ e)), omega arith)

pub with_digit-requires : goal.with_digit-requires
with_digit-requires c =
    let s = c.args.s.now in
    let l = c.loop-b in
    from_zero s (c.count_digits-n.ensures.count ∙ digits_counted s) l.value l.b-index l.invariant.0 c.loop-b-test.true

pub returns-in_err-value : goal.returns-in_err-value
returns-in_err-value c =
    let s = c.args.s.now in
    let l = c.loop-b in
    c.from_residual.ensures
    ∙ too_far s (c.count_digits-n.ensures.count ∙ digits_counted s) l.value l.b-index l.invariant.0 c.loop-b-test.true
    (sym c.with_digit.ensures ∙ c.in_err-value.was)

pub loop-b-preserved : goal.loop-b-preserved
loop-b-preserved c =
    let s = c.args.s.now in
    let l = c.loop-b in
    one_further s (c.count_digits-n.ensures.count ∙ digits_counted s) l.value l.b-index l.invariant.0 c.loop-b-test.true c.in_ok-value.value
    (sym c.with_digit.ensures ∙ c.in_ok-value.was)

pub returns : goal.returns
returns c =
    let s = c.args.s.now in
    let l = c.loop-b in
    let end = sym (c.line_ends.ensures ∙ ap ends (to_end s c.count_digits-n.result)) ∙ c.if-not-line_ends.false in
    all_digits s (c.count_digits-n.ensures.count ∙ digits_counted s) l.value l.b-index l.invariant.0 c.loop-b-test.false l.auto.b-index-end
    c.count_digits-n.ensures.fits end l.invariant.1
