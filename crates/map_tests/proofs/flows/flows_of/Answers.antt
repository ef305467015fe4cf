use Rattle.std.proofs.Common.{◌≡◌, [], ◌∷◌, ◌++◌, rules}
use Rattle.drainage.specs.Drained.{directed_of}
use Rattle.flow.specs.TileFlow.{IsTileFlow}
use Rattle.map_tests.proofs.Pushing.{each_more, pushed_size}
use Rattle.map_tests.proofs.flows.flows_of.Goals as goal

pub loop-tile-preserved : goal.loop-tile-preserved
loop-tile-preserved c =
    let pushed : c.push.new.self.items ≡ c.loop-tile.flows.items ++ c.in_ok-flow.flow ∷ [] =
    search rules in
    record {
      size = pushed_size _ _ _ _ pushed c.loop-tile.invariant.size;
      each = each_more (λ k f. IsTileFlow (directed_of c.args.ways.now) c.args.tiling.now k f)
          _ _ _ _ pushed c.loop-tile.invariant.size c.loop-tile.invariant.each
          c.in_ok-flow.ensures;
    }
