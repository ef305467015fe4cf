use Rattle.drain.specs.Counts.{AreChanges}
use Rattle.drain.proofs.rounds.changes_at_rims.Given as goal

abbrev pub invariant-loop-tile : goal.invariant-loop-tile
invariant-loop-tile l = AreChanges l.input.terrain l.input.steps l.changes.items
