use Rattle.drain.specs.Counts.{AreChanges}
use Rattle.drain.proofs.input.RoundInput.push_around.Given as goal

abbrev pub invariant-loop-row : goal.invariant-loop-row
invariant-loop-row l = AreChanges l.self.terrain l.self.steps l.changes.items
