use Rattle.std.proofs.Common.{◌≡◌, ◌<◌, []}
use Rattle.terrain.specs.declared.place.Place.{Place}
use Rattle.tiles.specs.Windows.{IsInner}
use Rattle.drain.specs.Search.{IsNear, IsPulled}
use Rattle.drain.proofs.search.pull_along.Given as goal

abbrev pub invariant-loop-col : goal.invariant-loop-col
invariant-loop-col l = record {
  pulled : IsPulled l.window l.old l.counts l.reached.items;
  near : l.reached.items ≡ [] → (l.initial.reached.items ≡ [])
      × ((s : Place) → IsInner l.window.bounds s → s.row ≡ l.row → s.col < l.col → IsNear l.window l.old s);
}
