use Rattle.std.proofs.Common.{ap}
use Rattle.flow.specs.TileLinks.{without_counts}
use Rattle.flow.proofs.tile.TileFlow.exits.Goals as goal

pub returns : goal.returns
returns c = ap without_counts c.self.view_is
