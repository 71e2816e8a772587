-- The text, then the number's digits.
use Rattle.std.proofs.Common.{◌≡◌, ◌-◌, ◌<◌, ◌^◌, length, take, drop, arith, rules}
use Rattle.text.specs.Decimal.{decimal_text}
use Rattle.text.proofs.Digits.{end_length, end_text}
use Rattle.output.proofs.Stores.{put_both}
use Rattle.output.proofs.Page.put_number.Goals as goal

pub returns : goal.returns
returns c =
    let low : c.args.n < 10 ^ 20 = omega (arith, c.ranges.n) in
    let f = c.decimal-figure.result in
    let digits : take (length f.digits - f.start) (drop f.start f.digits) ≡ decimal_text c.args.n =
    rw (c.decimal-figure.ensures, end_length c.args.n low) (end_text c.args.n low) in
    (search rules, rw (← digits) (put_both _ _ _ c.put.ensures.1 c.put-2.ensures.1))
