use Rattle.relief.proofs.Maps.{one_map}
use Rattle.relief.proofs.laws.maps_are_one.Goals as goal

pub returns : goal.returns
returns c = one_map
