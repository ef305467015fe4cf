use Rattle.std.proofs.Common.{◌+◌, ◌-◌, ◌*◌}
use Rattle.tile_maps.specs.Maps.{IsMadeUpTo}
use Rattle.sight.proofs.by_place.push_row.Given as goal

abbrev pub invariant-loop-col : goal.invariant-loop-col
invariant-loop-col g l = IsMadeUpTo l.fn.bounds (g.M.PlaceMap.has l.map)
    ((l.row - l.fn.bounds.top) * l.fn.bounds.cols + (l.col - l.fn.bounds.left)) l.list.items
