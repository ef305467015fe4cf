use Rattle.std.proofs.Common.{◌≡◌, ◌-◌, ◌≤◌}
use Rattle.horizons.specs.Horizons.{target_count}
use Rattle.sight.specs.Sweep.{RaisesBelow}
use Rattle.sight.proofs.line_ground.raise_piece.Given as goal

abbrev pub invariant-loop-from : goal.invariant-loop-from
invariant-loop-from l = record {
  within : (target_count l.fn.raised ≤ l.from) × (l.from ≤ l.piece.end);
  target_count : target_count l.raised ≡ l.from;
  raises : RaisesBelow l.cells l.family l.targets l.line l.highest l.from l.raised;
}

abbrev pub decreases-loop-from : goal.decreases-loop-from
decreases-loop-from l = l.piece.end - l.from
