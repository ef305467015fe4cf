use Rattle.std.proofs.Common.{arith, ap, ◌∙◌, ◌*◌, ◌+◌, ◌/◌, None, get_or}
use Rattle.horizons.proofs.Sizes.{back_short}
use Rattle.sight.proofs.family.Family.block_top.Goals as goal

pub returns-clause-top : goal.returns-clause-top
returns-clause-top c b h inside low high is =
    let blocks = c.args.blocks in
    let low_is = back_short c.args.low (omega arith) in
    let high_is = back_short c.args.high (omega arith) in
    let between = c.cells_between-first.ensures.between b inside (rw low_is low) (rw high_is high) in
    c.top_along.ensures.top (b / 16) h (omega arith) (omega arith)
    (ap (λ n. get_or c.args.tops.now (n / 16 * blocks.across + b / 16 * blocks.along) None) c.lead_of.ensures ∙ is)
