use Rattle.sightlines.proofs.Heights.{are_heights}
use Rattle.sightlines.proofs.line.sees.Goals as goal

pub is_blocked-requires-clause-heights : goal.is_blocked-requires-clause-heights
is_blocked-requires-clause-heights c =
    rw c.cells-cells.ensures.value (are_heights _ c.cells-cells.ensures.lawful.terrain)

pub is_blocked-requires-2-clause-heights : goal.is_blocked-requires-2-clause-heights
is_blocked-requires-2-clause-heights c =
    rw c.cells-cells.ensures.value (are_heights _ c.cells-cells.ensures.lawful.terrain)
