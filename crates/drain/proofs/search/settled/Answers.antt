use Rattle.std.proofs.Common.{◌∙◌}
use Rattle.std.proofs.lemmas.Option.{MatchOption-at_some}
use Rattle.drain.specs.Search.{same}
use Rattle.drain.proofs.Spreading.{spread_counts, spread-length, spread_on}
use Rattle.drain.proofs.search.settled.Goals as goal

pub loop-counts-init : goal.loop-counts-init
loop-counts-init c = same

pub lowered-requires-clause-size : goal.lowered-requires-clause-size
lowered-requires-clause-size c =
    rw c.deref.ensures.value (spread-length c.loop-counts.invariant ∙ c.requires.size)

pub lowered-requires-clause-counts : goal.lowered-requires-clause-counts
lowered-requires-clause-counts c =
    rw c.deref.ensures.value (spread_counts c.requires.counts c.loop-counts.invariant)

pub loop-counts-preserved : goal.loop-counts-preserved
loop-counts-preserved c =
    let lower = MatchOption-at_some _ _ c.in-Some.lower c.in-Some.is c.in_ok-lower.ensures.lower in
    spread_on c.loop-counts.invariant (rw c.deref.ensures.value at lower.0)
