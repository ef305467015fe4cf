use Rattle.std.proofs.Common.{◌≡◌, ◌<◌, ◌≤◌, true}
use Rattle.drain.specs.Counts.{AreSoundCounts, count_sum}
use Rattle.drain.proofs.rounds.put_changes.Given as goal

abbrev pub invariant-loop-change : goal.invariant-loop-change
invariant-loop-change l = record {
  counts : AreSoundCounts l.grid.terrain l.steps;
  low : count_sum l.steps ≤ count_sum l.initial.steps;
  put : l.has_lowered ≡ true → count_sum l.steps < count_sum l.initial.steps;
}
