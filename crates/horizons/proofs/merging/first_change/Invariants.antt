use Rattle.std.proofs.Common.{◌+◌, ◌-◌, ◌<◌, ◌≤◌, not}
use Rattle.horizons.specs.Merging.{IsAboveOn}
use Rattle.horizons.proofs.merging.first_change.Given as goal

abbrev pub invariant-loop-turned : goal.invariant-loop-turned
invariant-loop-turned l = record {
  range : (l.from ≤ l.same) × (l.same < l.turned) × (l.turned < l.end);
  before : IsAboveOn l.targets l.one l.other l.first l.from (l.same + 1);
  after : IsAboveOn l.targets l.one l.other (not l.first) l.turned l.end;
}

abbrev pub decreases-loop-turned : goal.decreases-loop-turned
decreases-loop-turned l = l.turned - l.same
