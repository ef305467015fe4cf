use Rattle.drain.specs.Counts.{AreChanges}
use Rattle.drain.proofs.rounds.push_after.Given as goal

abbrev pub invariant-loop-index : goal.invariant-loop-index
invariant-loop-index l = AreChanges l.input.terrain l.input.steps l.changes.items
