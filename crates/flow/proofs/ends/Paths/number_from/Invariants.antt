use Rattle.flow.proofs.Ending.{SharesEnd, moves_left}
use Rattle.flow.proofs.ends.Paths.number_from.Given as goal

abbrev pub invariant-path : goal.invariant-path
invariant-path g l = SharesEnd (g.L.Links.list l.self.links.now) l.from l.node

abbrev pub decreases-path : goal.decreases-path
decreases-path g l = moves_left (g.L.Links.list l.self.links.now) l.node
