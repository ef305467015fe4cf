use Rattle.std.proofs.Common.{◌≡◌, List, Option, length}
use Rattle.terrain.specs.Raster.{Terrain}
use Rattle.terrain.specs.declared.place.Place.{Place}
use Rattle.fill.specs.Crests.{AreCrests, AreRings, Leaves}
use Rattle.fill.proofs.crests.Search.give_crest.Given as goal

abbrev pub invariant-loop : goal.invariant-loop
invariant-loop l = record {
  size : length l.self.crests.items ≡ length l.initial.self.crests.items;
  next : l.self.next.items ≡ l.initial.self.next.items;
  sound : (t : Terrain) (places : List (Option Place)) → Leaves t places l.label l.crest →
      AreRings t places l.crest l.initial.self.next.items → AreCrests t places l.initial.self.crests.items →
      AreCrests t places l.self.crests.items × Leaves t places l.at l.crest;
}
