use Rattle.drain.specs.Counts.{AreChanges}
use Rattle.drain.proofs.input.RoundInput.push_along.Given as goal

abbrev pub invariant-loop-col : goal.invariant-loop-col
invariant-loop-col l = AreChanges l.self.terrain l.self.steps l.changes.items
