use Rattle.drain.proofs.Few.{steps_are_few}
use Rattle.drain.proofs.laws.steps_are_few.Goals as goal

pub returns : goal.returns
returns c = steps_are_few
