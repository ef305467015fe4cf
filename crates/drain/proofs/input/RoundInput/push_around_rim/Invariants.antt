use Rattle.std.specs.Prelude.{Contains}
use Rattle.terrain.specs.declared.place.Place.{Place}
use Rattle.tiles.specs.Cutting.{rim_places}
use Rattle.drain.specs.Counts.{AreChanges}
use Rattle.drain.proofs.input.RoundInput.push_around_rim.Given as goal

abbrev pub invariant-loop-place : goal.invariant-loop-place
invariant-loop-place l = record {
  left : (p : Place) → Contains l.place-iterator p → Contains (rim_places l.self.cutting l.tile) p;
  changes : AreChanges l.self.terrain l.self.steps l.changes.items;
}
