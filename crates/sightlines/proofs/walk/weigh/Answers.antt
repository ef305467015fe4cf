use Rattle.std.proofs.Common.{arith, pos, ◌^◌}
use Rattle.std.proofs.lemmas.Int.{ints}
use Rattle.sightlines.proofs.Heights.{weighed_is}
use Rattle.sightlines.proofs.Elevations.{times_small}
use Rattle.sightlines.proofs.walk.weigh.Goals as goal

pub overflow_mul-result : goal.overflow_mul-result
overflow_mul-result c = (weighed_is _ _ c.requires.weight c.requires.height).0

pub returns-clause-value : goal.returns-clause-value
returns-clause-value c = (weighed_is _ _ c.requires.weight c.requires.height).1

pub returns-clause-small : goal.returns-clause-small
returns-clause-small c =
    rw (weighed_is _ _ c.requires.weight c.requires.height).1
    (times_small (pos c.args.weight) c.args.height 4096 (10 ^ 15) c.requires.weight (omega (arith, ints)))
