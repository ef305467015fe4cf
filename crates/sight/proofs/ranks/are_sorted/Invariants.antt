use Rattle.sight.proofs.Ranking.{AreSlopesUp}
use Rattle.sight.proofs.ranks.are_sorted.Given as goal

abbrev pub invariant-loop-index : goal.invariant-loop-index
invariant-loop-index l = AreSlopesUp l.targets l.index
