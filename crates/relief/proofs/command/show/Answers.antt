use Rattle.relief.proofs.command.show.Goals as goal

pub returns-clause-line : goal.returns-clause-line
returns-clause-line g c =
    (c.write_line.ensures.0, c.write_line.ensures.1, (c.write_line.result, c.write_line.ensures.2))
