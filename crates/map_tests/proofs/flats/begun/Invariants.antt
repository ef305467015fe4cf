use Rattle.map_tests.proofs.BegunCounts.{AreBegunBelow}
use Rattle.map_tests.proofs.flats.begun.Given as goal

abbrev pub invariant-loop-index : goal.invariant-loop-index
invariant-loop-index l = AreBegunBelow l.grid.terrain l.index l.counts.items
