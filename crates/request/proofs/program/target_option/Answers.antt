use Rattle.request.proofs.program.target_option.Goals as goal

pub returns : goal.returns
returns c = rw c.value_parser.ensures at c.number_option.ensures
