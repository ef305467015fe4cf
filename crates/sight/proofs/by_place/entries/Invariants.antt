use Rattle.std.proofs.Common.{◌-◌, ◌*◌}
use Rattle.tile_maps.specs.Maps.{IsMadeUpTo}
use Rattle.sight.proofs.by_place.entries.Given as goal

abbrev pub invariant-loop-row : goal.invariant-loop-row
invariant-loop-row g l = IsMadeUpTo l.fn.bounds (g.M.PlaceMap.has l.map)
    ((l.row - l.fn.bounds.top) * l.fn.bounds.cols) l.list.items
