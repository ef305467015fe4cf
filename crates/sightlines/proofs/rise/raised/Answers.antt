use Rattle.sightlines.proofs.Heights.{are_heights}
use Rattle.sightlines.proofs.rise.raised.Goals as goal

pub hides-requires-clause-heights : goal.hides-requires-clause-heights
hides-requires-clause-heights c = rw c.cells-cells.ensures.value (are_heights _ c.cells-cells.ensures.lawful.terrain)
