use Rattle.fill.proofs.Raised.{filled_stored}
use Rattle.fill.proofs.filling.flooded_whole.Goals as goal

pub returns : goal.returns
returns c =
    rw (c.in_ok-cells_of.ensures, c.deref.ensures.value)
    (filled_stored c.cells.ensures.lawful.terrain c.in_ok-heights.ensures)
