use Rattle.std.proofs.Common.{arith}
use Rattle.sight.proofs.Products.{times_short, same_short}
use Rattle.sight.proofs.family.is_at_centre.Goals as goal

pub overflow_mul-result : goal.overflow_mul-result
overflow_mul-result c =
    let is = times_short c.args.target.offset c.args.line c.requires.target.offset (omega arith) in
    rw is.1 is.0

pub overflow_mul-result-2 : goal.overflow_mul-result-2
overflow_mul-result-2 c =
    let is = times_short c.args.offset c.args.target.line c.requires.offset (omega arith) in
    rw is.1 is.0

pub returns : goal.returns
returns c =
    let one = times_short c.args.target.offset c.args.line c.requires.target.offset (omega arith) in
    let two = times_short c.args.offset c.args.target.line c.requires.offset (omega arith) in
    rw (one.1, two.1) (same_short _ _ one.0 two.0)
