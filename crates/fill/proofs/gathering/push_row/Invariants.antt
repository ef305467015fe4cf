use Rattle.std.proofs.Common.{◌≡◌, ◌<◌}
use Rattle.tiles.specs.Cutting.{IsWithin}
use Rattle.fill.specs.Gathering.{Adds, cell_label_among}
use Rattle.fill.proofs.gathering.push_row.Given as goal

abbrev pub invariant-loop-col : goal.invariant-loop-col
invariant-loop-col l = Adds (cell_label_among l.tiles.tiling.now l.tiles.floods.now)
    (λ p q. IsWithin l.tiles.tiling.now p × (p.row ≡ l.row) × (p.col < l.col)) l.initial.joins.items l.joins.items
