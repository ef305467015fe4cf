use Rattle.std.proofs.Common.{refl}
use Rattle.flow.specs.RimGraph.{next_exit_in}
use Rattle.flow.proofs.RimFlows.{read_of_tile}
use Rattle.flow.proofs.rim_graph.next_exit.Goals as goal

pub returns : goal.returns
returns g c = read_of_tile (λ f. next_exit_in f c.args.entry) (λ f. refl) c.args.tiling.now _ _ _ c.of_tile.result.now _
    c.tile_of.ensures.number c.of_tile.ensures c.next_exit.ensures
