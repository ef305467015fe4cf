use Rattle.std.proofs.Common.{◌≡◌}
use Rattle.drain.specs.Counts.{AreChanges}
use Rattle.drain.proofs.lowering.Lowered.spread.Given as goal

abbrev pub invariant-loop-row : goal.invariant-loop-row
invariant-loop-row l = record {
  bounds : l.self.bounds ≡ l.initial.self.bounds;
  changes : AreChanges l.input.terrain l.input.steps l.self.changes.items;
}
