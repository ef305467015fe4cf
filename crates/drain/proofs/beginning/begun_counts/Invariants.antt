use Rattle.drain.specs.Beginning.{HasGapOrLower, AreBegunUpTo}
use Rattle.drain.proofs.beginning.begun_counts.Given as goal

abbrev pub invariant-loop-row : goal.invariant-loop-row
invariant-loop-row l = AreBegunUpTo (HasGapOrLower l.window) l.window.bounds l.row 0 l.counts.items
