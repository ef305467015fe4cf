use Rattle.std.proofs.Common.{◌≤◌}
use Rattle.drain.specs.Counts.{AreChanges, AreSoundCounts, count_sum}
use Rattle.drain.proofs.rounds.run_rounds.Given as goal

abbrev pub invariant-loop-changes : goal.invariant-loop-changes
invariant-loop-changes g l = record {
  counts : AreSoundCounts l.grid.terrain l.steps.items;
  changes : AreChanges l.grid.terrain l.steps.items l.changes.items;
  low : count_sum l.steps.items ≤ count_sum l.initial.steps.items;
}

abbrev pub decreases-loop-changes : goal.decreases-loop-changes
decreases-loop-changes g l = count_sum l.steps.items
