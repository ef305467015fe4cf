use Rattle.std.proofs.Common.{arith}
use Rattle.sightlines.specs.Walk.{steps_of}
use Rattle.sightlines.proofs.Toward.{lead_up_is, lead_down_is}
use Rattle.sightlines.proofs.walk.Sightline.lead_at.Goals as goal

pub returns-then-self : goal.returns-then-self
returns-then-self c =
    let line = c.args.self in
    omega (
      arith,
      lead_up_is line.lead.from line.lead.to (steps_of line) c.args.step (omega arith) (omega arith) (omega arith),
    )

pub returns-else-self : goal.returns-else-self
returns-else-self c =
    let line = c.args.self in
    omega (
      arith,
      lead_down_is line.lead.from line.lead.to (steps_of line) c.args.step (omega arith) (omega arith) (omega arith),
    )
