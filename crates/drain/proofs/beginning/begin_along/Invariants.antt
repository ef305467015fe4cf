use Rattle.drain.specs.Beginning.{HasGapOrLower, AreBegunUpTo}
use Rattle.drain.proofs.beginning.begin_along.Given as goal

abbrev pub invariant-loop-col : goal.invariant-loop-col
invariant-loop-col l = AreBegunUpTo (HasGapOrLower l.window) l.window.bounds l.row l.col l.counts
