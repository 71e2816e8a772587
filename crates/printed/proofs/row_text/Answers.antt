use Rattle.std.proofs.Common.{◌∙◌}
use Rattle.printed.proofs.Lines.{row_same}
use Rattle.printed.proofs.row_text.Goals as goal

pub returns : goal.returns
returns c = c.line_text.ensures ∙ row_same c.args.row.now c.flags_of.ensures
