use Rattle.script.proofs.Turns.{line_turn}
use Rattle.script.proofs.read_line.Goals as goal

pub returns-clause-reads : goal.returns-clause-reads
returns-clause-reads c =
    let start = c.args.start in
    line_turn c.args.text.now start.at c.line_length-length.ensures start.place start.number c.requires.0
    c.read_command-command.ensures c.meaning_of.ensures c.place_after.ensures
