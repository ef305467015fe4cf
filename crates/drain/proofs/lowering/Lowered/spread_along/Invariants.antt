use Rattle.std.proofs.Common.{◌≡◌}
use Rattle.drain.specs.Counts.{AreChanges}
use Rattle.drain.proofs.lowering.Lowered.spread_along.Given as goal

abbrev pub invariant-loop-col : goal.invariant-loop-col
invariant-loop-col l = record {
  bounds : l.self.bounds ≡ l.initial.self.bounds;
  changes : AreChanges l.input.terrain l.input.steps l.self.changes.items;
}
