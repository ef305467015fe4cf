use Rattle.std.proofs.Common.{◌*◌, take}
use Rattle.tile_maps.specs.Maps.{IsMadeUpTo}
use Rattle.sight.specs.Rise.{IsRiseAt}
use Rattle.sight.proofs.tile.ViewshedInput.lower_by_observers.Given as goal

abbrev pub invariant-loop-observer : goal.invariant-loop-observer
invariant-loop-observer g l = IsMadeUpTo l.fn.bounds
    (IsRiseAt l.self.grid.now.terrain (take l.observer-index l.self.observers.now) l.self.radius)
    (l.fn.bounds.rows * l.fn.bounds.cols) l.values
