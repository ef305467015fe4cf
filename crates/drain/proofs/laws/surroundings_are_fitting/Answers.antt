use Rattle.drain.proofs.Laid.{fitting}
use Rattle.drain.proofs.laws.surroundings_are_fitting.Goals as goal

pub returns : goal.returns
returns c = λ t steps p a lawful are around. fitting are around.laid lawful around
