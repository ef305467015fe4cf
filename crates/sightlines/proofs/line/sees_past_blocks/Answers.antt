use Rattle.sightlines.proofs.Heights.{are_heights}
use Rattle.sightlines.proofs.line.sees_past_blocks.Goals as goal

pub hides-requires-clause-heights : goal.hides-requires-clause-heights
hides-requires-clause-heights c = rw c.cells-cells.ensures.value (are_heights _ c.cells-cells.ensures.lawful.terrain)

pub hides_out_of_line-requires-clause-heights : goal.hides_out_of_line-requires-clause-heights
hides_out_of_line-requires-clause-heights c =
    rw c.cells-cells.ensures.value (are_heights _ c.cells-cells.ensures.lawful.terrain)
