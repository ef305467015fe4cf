use Rattle.std.proofs.Common.{refl}
use Rattle.tiles.specs.Cutting.{entry_in}
use Rattle.flow.proofs.RimFlows.{read_of_tile}
use Rattle.flow.proofs.rim_graph.code_of.Goals as goal

pub returns-clause-value : goal.returns-clause-value
returns-clause-value g c = read_of_tile (λ f. entry_in f.bounds f.codes c.args.place) (λ f. refl) c.args.tiling.now _ _
    _ c.of_tile.result.now _ c.tile_of.ensures.number c.of_tile.ensures c.code.ensures
