use Rattle.std.proofs.Common.{arith}
use Rattle.flow.proofs.Ranges.{mapped_all}
use Rattle.flow.proofs.inflows.rim_weights.Goals as goal

pub returns : goal.returns
returns c = mapped_all _ c.loop-number.invariant (omega arith)
