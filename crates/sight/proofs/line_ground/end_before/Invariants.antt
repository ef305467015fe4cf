use Rattle.std.proofs.Common.{◌-◌, ◌+◌, ◌<◌, ◌≤◌}
use Rattle.sight.specs.Sweep.{AreBefore}
use Rattle.sight.proofs.line_ground.end_before.Given as goal

abbrev pub invariant-loop-leap : goal.invariant-loop-leap
invariant-loop-leap l = record {
  range : (l.from ≤ l.low) × (l.low < l.end);
  leap : (0 < l.leap) × (l.leap ≤ l.end + l.end);
  before : AreBefore l.targets l.line l.offset (l.low + 1);
}

abbrev pub decreases-loop-leap : goal.decreases-loop-leap
decreases-loop-leap l = l.end - l.low
