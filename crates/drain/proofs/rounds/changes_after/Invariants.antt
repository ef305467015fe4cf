use Rattle.drain.specs.Counts.{AreChanges}
use Rattle.drain.proofs.rounds.changes_after.Given as goal

abbrev pub invariant-loop-found : goal.invariant-loop-found
invariant-loop-found l = AreChanges l.input.terrain l.input.steps l.changes.items
