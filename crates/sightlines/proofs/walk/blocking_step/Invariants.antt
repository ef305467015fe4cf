use Rattle.std.proofs.Common.{◌≡◌, ◌-◌, false}
use Rattle.sightlines.specs.Sight.{sight}
use Rattle.sightlines.specs.Walk.{index_at, part_at, steps_of, step_range_blocks}
use Rattle.sightlines.proofs.walk.blocking_step.Given as goal

abbrev pub invariant-loop-step : goal.invariant-loop-step
invariant-loop-step l =
    let line = l.fn.line in
    record {
      index : l.index ≡ index_at line.lead line.side (steps_of line) l.step;
      part : l.part ≡ part_at line.side (steps_of line) l.step;
      sight : l.sight ≡ sight line.from_elevation line.to_elevation (steps_of line) l.step;
      clear : step_range_blocks l.cells line l.fn.first (l.step - l.fn.first) ≡ false;
    }
