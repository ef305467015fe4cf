use Rattle.std.proofs.Common.{ap, ◌∙◌}
use Rattle.terrain.specs.Raster.{Raster}
use Rattle.fill.proofs.Raised.{filled_stand, filled_grid}
use Rattle.fill.proofs.filling.filled.Goals as goal

pub with_cells-requires-clause-size : goal.with_cells-requires-clause-size
with_cells-requires-clause-size g c = rw c.frame.ensures.value c.in_ok-cells.ensures.filled.size

pub with_cells-requires-clause-heights : goal.with_cells-requires-clause-heights
with_cells-requires-clause-heights g c =
    rw c.frame.ensures.value (filled_stand c.args.grid.now.terrain c.in_ok-cells.ensures.filled)

pub from_grid-requires : goal.from_grid-requires
from_grid-requires g c =
    (filled_grid _ (c.in-Ok.ensures ∙
    ap (λ (r : Raster). record r { terrain = record r.terrain { cells = c.in_ok-cells.cells.items } })
    c.frame.ensures.value) c.in_ok-cells.ensures.filled).0

pub returns-clause-filled : goal.returns-clause-filled
returns-clause-filled g c = rw c.from_grid.ensures (filled_grid _ (c.in-Ok.ensures ∙ ap (λ (r : Raster). record r {
  terrain = record r.terrain { cells = c.in_ok-cells.cells.items };
}) c.frame.ensures.value) c.in_ok-cells.ensures.filled).1
