use Rattle.sight.proofs.Uniqueness.{viewsheds_are_one}
use Rattle.sight.proofs.laws.viewsheds_are_one.Goals as goal

pub returns : goal.returns
returns c = viewsheds_are_one
