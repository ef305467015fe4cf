use Rattle.sight.proofs.Rises.{rises_are_one}
use Rattle.sight.proofs.laws.rises_are_one.Goals as goal

pub returns : goal.returns
returns c = rises_are_one
