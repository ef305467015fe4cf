use Rattle.std.proofs.Common.{◌≡◌, ◌+◌, ◌*◌}
use Rattle.tiles.specs.Cutting.{bounds_of}
use Rattle.tiles.specs.RimNumbers.{stride}
use Rattle.flow.specs.RimGraph.{first_targets}
use Rattle.flow.proofs.rim_graph.push_targets.Given as goal

abbrev pub invariant-loop-side : goal.invariant-loop-side
invariant-loop-side g l = l.targets.items ≡ first_targets l.tiling (g.F.ExitList.flows l.flows)
    (l.tile * stride (bounds_of l.tiling 0) + l.side)
