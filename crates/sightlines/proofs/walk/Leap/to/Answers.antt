use Rattle.std.proofs.Common.{arith, ◌≡◌, ◌+◌}
use Rattle.sightlines.specs.Walk.{steps_of}
use Rattle.sightlines.proofs.Elevations.{leapt_elevation}
use Rattle.sightlines.proofs.Steps.{whole_le}
use Rattle.sightlines.proofs.Toward.{step_stays, step_passes}
use Rattle.sightlines.proofs.walk.Leap.to.Goals as goal

pub overflow_add-whole : goal.overflow_add-whole
overflow_add-whole c =
    let line = c.args.line in
    omega (
      arith,
      c.requires.leap.gains.few_ahead,
      c.requires.start.whole,
      whole_le line.side (steps_of line) c.args.first (omega arith) (omega arith),
    )

pub overflow_add-sight : goal.overflow_add-sight
overflow_add-sight c =
    (leapt_elevation _ _ _ _ (steps_of c.args.line) c.args.first 16 c.requires.line.from_elevation
    c.requires.line.to_elevation (omega arith) (omega arith) c.requires.start.sight c.requires.leap.rise).0

pub overflow_sub-result : goal.overflow_sub-result
overflow_sub-result c =
    let line = c.args.line in
    let is =
    step_stays line.side.from line.side.to (steps_of line) c.args.first 16 c.args.self.ahead c.args.self.behind
    c.args.self.part (omega arith) c.requires.leap.gains.sum (omega arith) in
    omega arith

pub returns-then-part-steps : goal.returns-then-part-steps
returns-then-part-steps c =
    let line = c.args.line in
    let end : c.args.first + 16 ≡ c.args.end = omega arith in
    let is =
    rw end at (step_stays line.side.from line.side.to (steps_of line) c.args.first 16 c.args.self.ahead
    c.args.self.behind c.args.self.part (omega arith) c.requires.leap.gains.sum (omega arith)) in
    let elevation =
    rw end at (leapt_elevation _ _ _ _ (steps_of line) c.args.first 16 c.requires.line.from_elevation
    c.requires.line.to_elevation (omega arith) (omega arith) c.requires.start.sight c.requires.leap.rise) in
    record { whole = omega arith; part = omega arith; sight = elevation.1 }

pub overflow_add-result : goal.overflow_add-result
overflow_add-result c =
    let line = c.args.line in
    omega (
      arith,
      c.requires.leap.gains.few_ahead,
      c.requires.start.whole,
      whole_le line.side (steps_of line) c.args.first (omega arith) (omega arith),
    )

pub overflow_sub-result-2 : goal.overflow_sub-result-2
overflow_sub-result-2 c =
    let line = c.args.line in
    let gains = c.requires.leap.gains in
    let is =
    step_passes line.side.from line.side.to _ c.args.first 16 c.args.self.ahead c.args.self.behind _ (omega arith)
    (omega arith) gains.sum gains.below (omega arith) in
    omega arith

pub returns : goal.returns
returns c =
    let line = c.args.line in
    let gains = c.requires.leap.gains in
    let end : c.args.first + 16 ≡ c.args.end = omega arith in
    let is =
    rw end at (step_passes line.side.from line.side.to _ c.args.first 16 c.args.self.ahead c.args.self.behind _
    (omega arith) (omega arith) gains.sum gains.below (omega arith)) in
    let elevation =
    rw end at (leapt_elevation _ _ _ _ (steps_of line) c.args.first 16 c.requires.line.from_elevation
    c.requires.line.to_elevation (omega arith) (omega arith) c.requires.start.sight c.requires.leap.rise) in
    record { whole = omega arith; part = omega arith; sight = elevation.1 }
