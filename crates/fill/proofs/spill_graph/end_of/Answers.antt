use Rattle.std.proofs.Common.{◌<◌, length, arith}
use Rattle.fill.proofs.GraphParts.{past_node}
use Rattle.fill.proofs.spill_graph.end_of.Goals as goal

pub returns-else-joins-end-clause-above : goal.returns-else-joins-end-clause-above
returns-else-joins-end-clause-above c =
    let inside : c.loop-end.end < length c.args.joins.now = omega arith in
    past_node _ _ _ c.requires.rising inside (c.requires.begin.above c.loop-end.end _ c.loop-end.invariant.from inside)
    c.if-joins-end.false
