-- Both numbers are words and the byte between them is a space, so the end decides.
use Rattle.std.proofs.Common.{rules, ◌≡◌, ◌<◌, sym, ap, slice_index_or}
use Rattle.lines.specs.Lines.{space, ends, entry_of, number_at}
use Rattle.lines.proofs.Places.{to_end}
use Rattle.lines.proofs.Entries.{entry_ended}
use Rattle.lines.proofs.entry_of.Goals as goal

pub returns : goal.returns
unfolding entry_of number_at
returns c =
    let text = c.args.text.now in
    let s : slice_index_or text 4 0 ≡ space = search rules in
    let a : c.in_ok-address.address < 65536 = search rules in
    let w : c.in_ok-word.word < 65536 = search rules in
    rw (c.then_some.ensures, sym c.in_ok-address.ensures, sym c.in_ok-word.ensures, sym (ap ends (to_end text 9)), sym c.line_ends.ensures)
    (entry_ended c.in_ok-address.address _ c.in_ok-word.word c.line_ends.result a s w)
