use Rattle.std.proofs.Common.{◌+◌, ◌-◌, All, sum, vec_len}
use Rattle.tiles.specs.Windows.{IsInner}
use Rattle.drain.specs.Search.{IsSpread}
use Rattle.drain.proofs.search.search.Given as goal

abbrev pub invariant-loop-done : goal.invariant-loop-done
invariant-loop-done l = record {
  spread : IsSpread l.window l.initial.counts l.counts;
  inner : All (IsInner l.window.bounds) l.reached.items;
}

abbrev pub decreases-loop-done : goal.decreases-loop-done
decreases-loop-done l = (vec_len l.reached - l.done) + sum l.counts
