use Rattle.std.proofs.Common.{◌<◌, []}
use Rattle.tiles.specs.Cutting.{IsWithin}
use Rattle.fill.specs.Gathering.{Adds, cell_label_among}
use Rattle.fill.proofs.gathering.graph_joins.Given as goal

abbrev pub invariant-loop-row : goal.invariant-loop-row
invariant-loop-row l = Adds (cell_label_among l.tiles.tiling.now l.tiles.floods.now)
    (λ p q. IsWithin l.tiles.tiling.now p × (p.row < l.row)) [] l.joins.items
