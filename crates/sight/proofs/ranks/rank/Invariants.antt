use Rattle.sight.proofs.Ranking.{AreRanksUpTo}
use Rattle.sight.proofs.ranks.rank.Given as goal

abbrev pub invariant-loop-rank : goal.invariant-loop-rank
invariant-loop-rank l = AreRanksUpTo l.rank l.rays l.targets.items l.ranks.items
