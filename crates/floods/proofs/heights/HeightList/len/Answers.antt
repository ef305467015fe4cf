use Rattle.floods.proofs.HeightLists.{length-where}
use Rattle.floods.proofs.heights.HeightList.len.Goals as goal

pub returns : goal.returns
returns c = cc (length-where _ _ c.self.inside.size)
