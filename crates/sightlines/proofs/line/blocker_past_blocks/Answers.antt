use Rattle.std.proofs.Common.{arith}
use Rattle.sightlines.proofs.LowBlocks.{tops_along_columns, tops_along_rows}
use Rattle.sightlines.proofs.Heights.{are_heights}
use Rattle.sightlines.proofs.line.blocker_past_blocks.Goals as goal

pub blocker_on-requires-clause-near_tops : goal.blocker_on-requires-clause-near_tops
blocker_on-requires-clause-near_tops c =
    rw (c.cells-cells.ensures.value, c.along_columns-near.ensures, c.cols-cols.ensures.value)
    (tops_along_columns 16 c.requires.columns (omega arith) c.requires.tops.near c.requires.target
    c.requires.observer)

pub blocker_on-requires-clause-far_tops : goal.blocker_on-requires-clause-far_tops
blocker_on-requires-clause-far_tops c =
    rw (c.cells-cells.ensures.value, c.along_columns-far.ensures, c.cols-cols.ensures.value)
    (tops_along_columns 128 c.requires.columns (omega arith) c.requires.tops.far c.requires.target
    c.requires.observer)

pub blocker_on-requires-2-clause-near_tops : goal.blocker_on-requires-2-clause-near_tops
blocker_on-requires-2-clause-near_tops c =
    rw (c.cells-cells.ensures.value, c.along_rows-near.ensures, c.cols-cols.ensures.value)
    (tops_along_rows 16 c.requires.rows (omega arith) c.requires.tops.near c.requires.target c.requires.observer)

pub blocker_on-requires-2-clause-far_tops : goal.blocker_on-requires-2-clause-far_tops
blocker_on-requires-2-clause-far_tops c =
    rw (c.cells-cells.ensures.value, c.along_rows-far.ensures, c.cols-cols.ensures.value)
    (tops_along_rows 128 c.requires.rows (omega arith) c.requires.tops.far c.requires.target c.requires.observer)

pub blocker_on-requires-clause-heights : goal.blocker_on-requires-clause-heights
blocker_on-requires-clause-heights c =
    rw c.cells-cells.ensures.value (are_heights _ c.cells-cells.ensures.lawful.terrain)

pub blocker_on-requires-2-clause-heights : goal.blocker_on-requires-2-clause-heights
blocker_on-requires-2-clause-heights c =
    rw c.cells-cells.ensures.value (are_heights _ c.cells-cells.ensures.lawful.terrain)
