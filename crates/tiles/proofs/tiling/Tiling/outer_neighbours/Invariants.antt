use Rattle.std.proofs.Common.{◌≡◌, ◌≤◌, ◌<◌, filter, length, take}
use Rattle.std.specs.List.{filter_map}
use Rattle.terrain.specs.Ways.{ways_from}
use Rattle.tiles.specs.Cutting.{longest_axis, is_in_other_tile, tile_of_place}
use Rattle.tiles.proofs.tiling.Tiling.outer_neighbours.Given as goal

abbrev pub invariant-loop-way : goal.invariant-loop-way
invariant-loop-way l = record {
  place : (l.place.row < longest_axis) × (l.place.col < longest_axis);
  tile : l.tile ≡ tile_of_place l.self l.place;
  capacity : l.found.capacity ≡ 8;
  few : length l.found.items ≤ l.way;
  found : l.found.items ≡ filter (is_in_other_tile l.self l.tile)
      (filter_map (λ o. o) (take l.way (ways_from l.place)));
}
