use Rattle.std.proofs.Common.{ap, ◌∙◌}
use Rattle.std.proofs.Math.Nat.{le_antisymm}
use Rattle.cell_floods.specs.Cells.{inner_rows}
use Rattle.cell_floods.proofs.cell_net.without_border.Goals as goal

pub returns : goal.returns
returns g c = c.loop-row.invariant ∙ ap (inner_rows c.args.list.now c.args.cols)
    (le_antisymm c.loop-row.auto.row-end c.loop-row-test.false)
