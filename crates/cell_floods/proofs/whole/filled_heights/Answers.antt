use Rattle.cell_floods.proofs.InnerRows.{whole_filled}
use Rattle.cell_floods.proofs.whole.filled_heights.Goals as goal

pub returns : goal.returns
returns c =
    rw (
      c.in_ok-without_border.ensures,
      c.deref.ensures.value,
      c.cols.ensures.value,
      c.rows.ensures.value,
    )
    (whole_filled c.args.grid.now.terrain c.in_ok-net.net c.in_ok-flooded.flooded.level.items
    c.in_ok-flooded.flooded.label.items c.in_ok-net.ensures c.in_ok-flooded.ensures)
