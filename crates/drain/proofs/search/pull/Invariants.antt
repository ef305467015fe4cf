use Rattle.std.proofs.Common.{◌≡◌, ◌<◌, []}
use Rattle.terrain.specs.declared.place.Place.{Place}
use Rattle.tiles.specs.Windows.{IsInner}
use Rattle.drain.specs.Search.{IsNear, IsPulled}
use Rattle.drain.proofs.search.pull.Given as goal

abbrev pub invariant-loop-row : goal.invariant-loop-row
invariant-loop-row l = record {
  pulled : IsPulled l.window l.old l.counts l.reached.items;
  near : l.reached.items ≡ [] → (s : Place) → IsInner l.window.bounds s → s.row < l.row → IsNear l.window l.old s;
}
