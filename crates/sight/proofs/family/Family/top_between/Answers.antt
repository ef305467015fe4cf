use Rattle.std.proofs.Common.{arith, ap, ◌∙◌, ◌*◌, ◌+◌, None, get_or}
use Rattle.horizons.proofs.Sizes.{back_short}
use Rattle.sight.proofs.family.Family.top_between.Goals as goal

pub returns-clause-top : goal.returns-clause-top
returns-clause-top c b h inside low high is =
    let f = c.args.self in
    let low_is = back_short c.args.low (omega arith) in
    let high_is = back_short c.args.high (omega arith) in
    let between = c.cells_between-first.ensures.between b inside (rw low_is low) (rw high_is high) in
    c.top_along.ensures.top b h between.0 between.1
    (ap (λ n. get_or c.args.cells.now (n * f.lines.stride + b * f.side.stride) None) c.lead_of.ensures ∙ is)
