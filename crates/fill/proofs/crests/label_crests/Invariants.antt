use Rattle.std.proofs.Common.{◌≡◌, List, Option, length}
use Rattle.terrain.specs.Raster.{Terrain}
use Rattle.terrain.specs.declared.place.Place.{Place}
use Rattle.fill.specs.Crests.{AreCrests, ArePassages, AreRings}
use Rattle.fill.proofs.crests.label_crests.Given as goal

abbrev pub invariant-loop-join : goal.invariant-loop-join
invariant-loop-join l = record {
  size : length l.search.crests.items ≡ length l.initial.search.crests.items;
  rings : (t : Terrain) (places : List (Option Place)) → ArePassages t places l.join-items →
      AreRings t places l.level l.search.next.items;
  crests : (t : Terrain) (places : List (Option Place)) → ArePassages t places l.join-items →
      AreCrests t places l.initial.search.crests.items → AreCrests t places l.search.crests.items;
}
