use Rattle.std.proofs.Common.{arith}
use Rattle.fill.proofs.Rings.{united_rings}
use Rattle.fill.proofs.crests.Search.unite.Goals as goal

pub returns-then-unite-clause-rings : goal.returns-then-unite-clause-rings
returns-then-unite-clause-rings c t places now low pass rings =
    rw c.swap.ensures.items
    (united_rings t places now c.args.join pass low c.args.self.now.next.items (omega arith) (omega arith) rings)
