use Rattle.std.proofs.Common.{◌-◌, ◌+◌, ◌<◌, ◌≤◌}
use Rattle.sight.specs.Sweep.{AreBefore}
use Rattle.sight.proofs.line_ground.bisect.Given as goal

abbrev pub invariant-loop-past : goal.invariant-loop-past
invariant-loop-past l = record {
  range : (l.low ≤ l.before) × (l.before < l.past) × (l.past ≤ l.high);
  before : AreBefore l.targets l.line l.offset (l.before + 1);
}

abbrev pub decreases-loop-past : goal.decreases-loop-past
decreases-loop-past l = l.past - l.before
