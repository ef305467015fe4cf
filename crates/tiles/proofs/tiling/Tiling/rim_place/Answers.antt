use Rattle.tiles.proofs.RimNumbered.{some_tile}
use Rattle.tiles.proofs.tiling.Tiling.rim_place.Goals as goal

pub bounds-largest-requires : goal.bounds-largest-requires
bounds-largest-requires c = some_tile c.args.self.now c.args.number c.requires
