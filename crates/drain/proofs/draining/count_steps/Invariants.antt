use Rattle.drain.specs.Counts.{AreChanges, AreSoundCounts, count_sum}
use Rattle.drain.proofs.draining.count_steps.Given as goal

abbrev pub invariant-loop-steps : goal.invariant-loop-steps
invariant-loop-steps g l = record {
  counts : AreSoundCounts l.grid.terrain l.steps.items;
  changes : AreChanges l.grid.terrain l.steps.items l.changes.items;
}

abbrev pub decreases-loop-steps : goal.decreases-loop-steps
decreases-loop-steps g l = count_sum l.steps.items
