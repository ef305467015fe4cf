use Rattle.std.proofs.Common.{arith}
use Rattle.sightlines.proofs.Elevations.{rise_is, scaled_as_reckoned}
use Rattle.sightlines.proofs.walk.Leap.new.Goals as goal

pub overflow_sub-result : goal.overflow_sub-result
overflow_sub-result c =
    let line = c.args.line in
    (rise_is line.from_elevation line.to_elevation 16 c.requires.line.from_elevation c.requires.line.to_elevation
    (omega arith)).0

pub returns : goal.returns
returns c =
    let line = c.args.line in
    record {
      gains = rw c.steps.ensures at c.gain-aside.ensures;
      rise = (rise_is line.from_elevation line.to_elevation 16 c.requires.line.from_elevation
          c.requires.line.to_elevation (omega arith)).1;
    }

pub overflow_mul-result : goal.overflow_mul-result
overflow_mul-result c = (scaled_as_reckoned c.args.line.to_elevation 16 c.requires.line.to_elevation (omega arith)).0

pub overflow_mul-result-2 : goal.overflow_mul-result-2
overflow_mul-result-2 c =
    (scaled_as_reckoned c.args.line.from_elevation 16 c.requires.line.from_elevation (omega arith)).0
