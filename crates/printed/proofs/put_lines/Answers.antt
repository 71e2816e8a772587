-- A line more for each row.
use Rattle.std.proofs.Common.{◌≡◌, refl, rules, arith, sym, length-take-le}
use Rattle.output.specs.Page.{put_on}
use Rattle.printed.specs.Printed.{lines_text}
use Rattle.printed.proofs.Lines.{chunk_more}
use Rattle.printed.proofs.put_lines.Goals as goal

pub slice_bounds-row-items-end : goal.slice_bounds-row-items-end
slice_bounds-row-items-end c = sym (length-take-le _ _ (omega (arith, c.requires, c.as_chunks.ensures.front_len)))

pub loop-row-init : goal.loop-row-init
unfolding put_on lines_text
loop-row-init c = (refl, refl)

pub offset_bounds-row-items-row-index : goal.offset_bounds-row-items-row-index
offset_bounds-row-items-row-index c =
    let size = length-take-le c.args.count c.as_chunks.result.0.now (omega (arith, c.requires, c.as_chunks.ensures.front_len)) in
    omega (arith, size, c.requires, c.loop-row-test.true)

pub loop-row-preserved : goal.loop-row-preserved
loop-row-preserved c =
    let chunks = c.as_chunks.ensures in
    let size = length-take-le c.args.count c.as_chunks.result.0.now (omega (arith, c.requires, chunks.front_len)) in
    let few = c.loop-row-test.true in (
      search rules,
      chunk_more _ _ c.args.count c.loop-row.row-index c.args.rows.now _ chunks.front (omega (arith, size, c.requires, few)) (omega (arith, size, few))
          c.loop-row.invariant.1 c.row_text.ensures c.put.ensures.1,
    )

pub returns : goal.returns
returns c =
    let size = length-take-le c.args.count c.as_chunks.result.0.now (omega (arith, c.requires, c.as_chunks.ensures.front_len)) in
    let all : c.args.count ≡ c.loop-row.row-index = omega (arith, size, c.loop-row-test.false, c.loop-row.auto.row-index-end) in
    rw all c.loop-row.invariant
