use Rattle.drainage.proofs.Heights.{filled_height_occurs}
use Rattle.drainage.proofs.laws.filled_heights_occur.Goals as goal

pub returns : goal.returns
returns c = filled_height_occurs
