use Rattle.std.proofs.Common.{◌+◌, ◌-◌, ◌/◌, arith}
use Rattle.fill.proofs.GraphParts.{below_more, above_more}
use Rattle.fill.proofs.spill_graph.first_from.Goals as goal

pub loop-low-preserved-then-joins-middle : goal.loop-low-preserved-then-joins-middle
loop-low-preserved-then-joins-middle c =
    let i = c.loop-low.invariant in
    let middle = c.loop-low.low + (c.loop-low.high - c.loop-low.low) / 2 in
    record {
      low = omega arith;
      high = i.high;
      below = below_more _ _ middle _ c.requires (omega arith) c.if-joins-middle.true;
      above = i.above;
    }

pub loop-low-preserved : goal.loop-low-preserved
loop-low-preserved c =
    let middle = c.loop-low.low + (c.loop-low.high - c.loop-low.low) / 2 in
    record {
      low = omega arith;
      high = omega arith;
      below = c.loop-low.invariant.below;
      above = above_more _ _ middle _ c.requires (omega arith) c.if-joins-middle.false;
    }
