use Rattle.std.proofs.Common.{◌≡◌, ◌<◌, ◌≤◌, true}
use Rattle.drain.specs.Counts.{AreSoundCounts, count_sum}
use Rattle.drain.proofs.rounds.put_all.Given as goal

abbrev pub invariant-loop-found : goal.invariant-loop-found
invariant-loop-found l = record {
  counts : AreSoundCounts l.grid.terrain l.steps;
  low : count_sum l.steps ≤ count_sum l.initial.steps;
  put : l.has_lowered ≡ true → count_sum l.steps < count_sum l.initial.steps;
}
