use Rattle.std.proofs.Common.{arith, rules}
use Rattle.drain.proofs.Spreading.{lowering_none, lowering_then}
use Rattle.drain.proofs.search.spread.Goals as goal

pub loop-way-init : goal.loop-way-init
loop-way-init c = record { lowering = lowering_none; next = search rules }

pub loop-way-preserved : goal.loop-way-preserved
loop-way-preserved c = record {
  lowering = lowering_then c.loop-way.invariant.lowering c.in_ok-reach.ensures.lowering;
  next = omega (arith, c.loop-way.invariant.next, c.in_ok-reach.ensures.kept);
}
