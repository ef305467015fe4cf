use Rattle.map_tests.proofs.BegunCounts.{HasNoLowerBelow}
use Rattle.map_tests.proofs.flats.has_lower.Given as goal

abbrev pub invariant-loop-index : goal.invariant-loop-index
invariant-loop-index l = HasNoLowerBelow l.grid.terrain l.place l.index
