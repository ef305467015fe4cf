use Rattle.std.proofs.Common.{length, get_or, map}
use Rattle.flow.specs.TileLinks.{code_told, weights_by}
use Rattle.flow.proofs.Ranges.{AreSet}
use Rattle.flow.proofs.tile_links.set_weights.Given as goal

abbrev pub invariant-loop-index : goal.invariant-loop-index
invariant-loop-index l =
    AreSet (λ i. get_or (weights_by (map code_told l.moves)) i 0) (length l.moves) l.index l.weights
