use Rattle.std.proofs.Common.{arith}
use Rattle.flow.proofs.Ranges.{mapped_all}
use Rattle.flow.proofs.rim_graph.rim_links.Goals as goal

pub returns : goal.returns
returns g c = mapped_all _ c.loop-number.invariant (omega arith)
