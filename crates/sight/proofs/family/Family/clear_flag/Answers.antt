use Rattle.std.proofs.Common.{arith, refl, ◌-◌}
use Rattle.sight.specs.Sweep.{lead_of}
use Rattle.sight.proofs.family.Family.clear_flag.Goals as goal

pub bounds-flags-index : goal.bounds-flags-index
bounds-flags-index c =
    let w = c.args.extent in
    let ray = c.requires.ray in
    rw (c.flag_index-index.ensures ray.cell ray.stands) (c.requires.extent.inside
    (lead_of c.args.self c.args.ray.line - w.lines.first) (ray.cell - w.side.first) (omega arith) (omega arith))

pub returns : goal.returns
returns c = λ y stands. rw (c.flag_index-index.ensures y stands) refl
