use Rattle.std.proofs.Common.{◌++◌, Option, filter, take, sym, ap, ◌∙◌, arith}
use Rattle.std.specs.List.{filter_map}
use Rattle.std.specs.Option.{option_to_list}
use Rattle.terrain.specs.declared.place.Place.{Place}
use Rattle.terrain.specs.Ways.{ways_from}
use Rattle.tiles.specs.Cutting.{is_in_other_tile}
use Rattle.tiles.proofs.Outer.{filter_ways_more}
use Rattle.tiles.proofs.tiling.Tiling.outer_neighbours.Goals as goal

pub loop-way-preserved : goal.loop-way-preserved
loop-way-preserved c =
    let before = c.loop-way.invariant in
    let test = is_in_other_tile c.args.self.now c.tile_of-tile.result in
    let few = c.push_if_outer.ensures.few in
    let few' = before.few in
    record {
      place = before.place;
      tile = before.tile;
      capacity = c.push_if_outer.ensures.capacity ∙ before.capacity;
      few = omega (arith, few, few');
      found = c.push_if_outer.ensures.items
          ∙ ap (λ xs. xs ++ filter test (option_to_list c.place_on.result)) before.found
          ∙ ap (λ (o : Option Place). filter test
          (filter_map (λ (x : Option Place). x) (take c.loop-way.way (ways_from c.args.place)))
          ++ filter test (option_to_list o)) c.place_on.ensures
          ∙ sym
          (filter_ways_more test (ways_from c.args.place) c.loop-way.way c.loop-way-test.true);
    }
