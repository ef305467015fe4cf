use Rattle.std.proofs.Common.{◌≡◌, ◌-◌, ◌≤◌, false}
use Rattle.sightlines.specs.Walk.{steps_of, step_range_blocks, IsAt}
use Rattle.sightlines.proofs.passing.blocking_step_past_blocks.Given as goal

abbrev pub invariant-loop-first : goal.invariant-loop-first
invariant-loop-first l = record {
  begun : 1 ≤ l.first;
  within : l.first ≤ steps_of l.fn.line;
  start : IsAt l.fn.line l.first l.start;
  clear : step_range_blocks l.cells l.fn.line 1 (l.first - 1) ≡ false;
}

abbrev pub decreases-loop-first : goal.decreases-loop-first
decreases-loop-first l = steps_of l.fn.line - l.first
