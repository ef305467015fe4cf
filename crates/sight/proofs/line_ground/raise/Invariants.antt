use Rattle.std.proofs.Common.{◌≡◌, ◌-◌, ◌≤◌, length}
use Rattle.horizons.specs.Horizons.{target_count, IsUpTo}
use Rattle.sight.specs.Sweep.{RaisesBelow}
use Rattle.sight.proofs.line_ground.raise.Given as goal

abbrev pub invariant-loop-from : goal.invariant-loop-from
invariant-loop-from l = record {
  within : l.from ≤ length l.targets;
  target_count : target_count l.raised ≡ l.from;
  cursor : IsUpTo l.highest l.cursor l.from;
  raises : RaisesBelow l.cells l.family l.targets l.line l.highest l.from l.raised;
}

abbrev pub decreases-loop-from : goal.decreases-loop-from
decreases-loop-from l = length l.targets - l.from
