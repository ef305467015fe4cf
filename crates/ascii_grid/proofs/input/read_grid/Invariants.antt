use Rattle.std.proofs.Common.{◌-◌}
use Rattle.ascii_grid.proofs.Pieces.{HasFedSoFar}
use Rattle.ascii_grid.proofs.input.read_grid.Given as goal

abbrev pub invariant-pieces : goal.invariant-pieces
invariant-pieces g l = HasFedSoFar g.R.Read.remaining l.initial.reader l.reader l.scale l.grid_reader l.taken

abbrev pub decreases-pieces : goal.decreases-pieces
decreases-pieces g l = 536870913 - l.taken
