use Rattle.std.proofs.Common.{arith}
use Rattle.fill.proofs.crests.Search.new.Goals as goal

pub returns-clause-rings : goal.returns-clause-rings
returns-clause-rings c t places now a level below above leaves =
    rw (c.loop-label.invariant.each a (omega (arith, below, c.loop-label.invariant.size))) leaves
