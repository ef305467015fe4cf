use Rattle.drain.specs.Search.{same}
use Rattle.drain.proofs.Spreading.{spread_on}
use Rattle.drain.proofs.search.search.Goals as goal

pub loop-done-init : goal.loop-done-init
loop-done-init c = record { spread = same; inner = c.requires.inner }

pub loop-done-preserved : goal.loop-done-preserved
loop-done-preserved c = record {
  spread = spread_on c.loop-done.invariant.spread c.in_ok-spread.ensures.spread;
  inner = c.in_ok-spread.ensures.inner c.loop-done.invariant.inner;
}
