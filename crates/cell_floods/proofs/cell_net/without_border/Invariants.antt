use Rattle.std.proofs.Common.{◌≡◌}
use Rattle.cell_floods.specs.Cells.{inner_rows}
use Rattle.cell_floods.proofs.cell_net.without_border.Given as goal

abbrev pub invariant-loop-row : goal.invariant-loop-row
invariant-loop-row g l = l.inner.items ≡ inner_rows l.list l.cols l.row
