use Rattle.std.proofs.Common.{arith}
use Rattle.flow.proofs.Sending.{sums_from}
use Rattle.flow.proofs.streams.send_all.Goals as goal

pub returns : goal.returns
returns g c = sums_from _ _ _ _ c.loop-node.invariant.sending (λ i h. c.loop-node.invariant.early i (omega arith))
