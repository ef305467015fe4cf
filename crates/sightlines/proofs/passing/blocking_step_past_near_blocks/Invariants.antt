use Rattle.std.proofs.Common.{◌≡◌, ◌-◌, ◌≤◌, false}
use Rattle.sightlines.specs.Walk.{step_range_blocks, IsAt}
use Rattle.sightlines.proofs.passing.blocking_step_past_near_blocks.Given as goal

abbrev pub invariant-loop-step : goal.invariant-loop-step
invariant-loop-step l = record {
  begun : l.fn.first ≤ l.step;
  within : l.step ≤ l.fn.end;
  start : IsAt l.fn.line l.step l.here;
  clear : step_range_blocks l.cells l.fn.line l.fn.first (l.step - l.fn.first) ≡ false;
}

abbrev pub decreases-loop-step : goal.decreases-loop-step
decreases-loop-step l = l.fn.end - l.step
