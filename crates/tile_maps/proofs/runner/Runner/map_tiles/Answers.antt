use Rattle.std.proofs.Common.{◌∙◌, ap, subst}
use Rattle.tiles.specs.Cutting.{IsCutting, tile_count}
use Rattle.tile_maps.proofs.Whole.{lists_of_tiles, made_whole}
use Rattle.tile_maps.proofs.runner.Runner.map_tiles.Goals as goal

pub put_back-requires : goal.put_back-requires
put_back-requires g c =
    let e = c.tiling-tiling.ensures in
    let m = c.args.map in
    rw (c.deref.ensures.value, e)
    (lists_of_tiles (g.M.TileMap.cutting m) (g.M.TileMap.has m) c.tiles.result c.in_ok-lists.lists
    c.in_ok-lists.ensures.len (c.tiles.ensures.value ∙ ap tile_count e) c.in_ok-lists.ensures.given)

pub returns-in-Ok-clause-made : goal.returns-in-Ok-clause-made
returns-in-Ok-clause-made g c =
    let e = c.tiling-tiling.ensures in
    let m = c.args.map in
    made_whole (g.M.TileMap.cutting m) (g.M.TileMap.has m) c.tiles.result c.in_ok-lists.lists
    c.in_ok-lists.ensures.len (c.tiles.ensures.value ∙ ap tile_count e) c.in_ok-lists.ensures.given
    c.in-Ok.whole.items (subst (λ k. IsCutting k) e c.tiles.ensures.lawful)
    (rw (c.deref.ensures.value, e) at c.in-Ok.ensures)
