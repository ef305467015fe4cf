use Rattle.floods.proofs.HeightLists.{stored_numbers}
use Rattle.floods.proofs.heights.HeightList.heights.Goals as goal

pub returns : goal.returns
returns c = cc (stored_numbers _ _ c.self.inside.size)
