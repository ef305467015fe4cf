use Rattle.std.proofs.Common.{sum}
use Rattle.drain.specs.Search.{IsSpread}
use Rattle.drain.proofs.search.settled.Given as goal

abbrev pub invariant-loop-counts : goal.invariant-loop-counts
invariant-loop-counts l = IsSpread l.window l.initial.counts.items l.counts.items

abbrev pub decreases-loop-counts : goal.decreases-loop-counts
decreases-loop-counts l = sum l.counts.items
