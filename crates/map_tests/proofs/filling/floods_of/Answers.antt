use Rattle.std.proofs.Common.{◌≡◌, [], ◌∷◌, ◌++◌, rules}
use Rattle.cell_floods.specs.TileFlood.{IsTileFlood}
use Rattle.fill.proofs.Raised.{flood_of_view}
use Rattle.map_tests.proofs.Pushing.{each_more, pushed_size}
use Rattle.map_tests.proofs.filling.floods_of.Goals as goal

pub loop-tile-preserved : goal.loop-tile-preserved
loop-tile-preserved c =
    let pushed : c.push.new.self.items ≡ c.loop-tile.floods.items ++ c.in_ok-flood.flood ∷ [] =
    search rules in
    record {
      size = pushed_size _ _ _ _ pushed c.loop-tile.invariant.size;
      each = each_more (λ k f. IsTileFlood c.args.grid.now.terrain c.args.tiling.now k f)
          _ _ _ _ pushed c.loop-tile.invariant.size c.loop-tile.invariant.each
          (flood_of_view c.args.grid.now.terrain c.args.tiling.now _ _ _ _ _ c.requires
          c.view.ensures c.cells.ensures.value c.sinks.ensures.value c.in_ok-flood.ensures);
    }
