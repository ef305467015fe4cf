use Rattle.fill.proofs.Lowest.{HasKept}
use Rattle.fill.proofs.placing.lowest_joins.Given as goal

abbrev pub invariant-loop-index : goal.invariant-loop-index
invariant-loop-index l = HasKept l.joins.items l.index l.lowest.items
