use Rattle.std.proofs.Common.{SFits, rules, sym, to_z-of_z, ◌∙◌}
use Rattle.terrain.proofs.Heights.{height_width}
use Rattle.drain.proofs.Steepest.{direction_onward}
use Rattle.drain.proofs.steepness.direction.Goals as goal

pub returns-in-None-2 : goal.returns-in-None-2
returns-in-None-2 c =
    let a = c.args.around.now in
    let fits : SFits height_width a.level = search rules in
    c.of_way-in-None-2.ensures ∙ sym (direction_onward c.heights_around.ensures
    c.onward.result (rw (to_z-of_z fits) at c.in-None-2.ensures) c.if-around.false c.onward.ensures.first)
