use Rattle.std.proofs.Common.{arith, sym}
use Rattle.fill.proofs.CellLabels.{cell_label_outside}
use Rattle.fill.proofs.cell_labels.NumberedFloods.cell_label.Goals as goal
use Rattle.fill.proofs.cell_labels.NumberedFloods.cell_label.Goals.{then-place-rows-via-then-place-rows, then-place-rows-via-else-place-rows+then-place-cols}

pub returns-then-place-rows : goal.returns-then-place-rows
returns-then-place-rows c =
    sym (cell_label_outside _ _ c.args.place c.requires c.args.self.now.fit (λ within.
    elim c.then-place-rows.branch [
      | then-place-rows-via-then-place-rows w ↦ omega arith
      | then-place-rows-via-else-place-rows+then-place-cols w ↦ omega arith
    ]))
