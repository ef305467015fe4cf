-- Adding sinks changes no cells.
use Rattle.std.proofs.Common.{rules}
use Rattle.base_tests.proofs.grids.sinks_stay_with_other_cells.Goals as goal

pub filled-other-requires-clause-high : goal.filled-other-requires-clause-high
filled-other-requires-clause-high g c =
    rw (c.named-sunk.ensures.cells, c.bowl-grid.ensures.cells) (search rules)
