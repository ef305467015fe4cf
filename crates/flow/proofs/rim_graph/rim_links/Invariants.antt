use Rattle.std.proofs.Common.{◌≡◌, map}
use Rattle.std.specs.List.{range_with_len}
use Rattle.flow.specs.RimGraph.{rim_link}
use Rattle.flow.proofs.rim_graph.rim_links.Given as goal

abbrev pub invariant-loop-number : goal.invariant-loop-number
invariant-loop-number g l =
    l.links.items ≡ map (rim_link l.tiling (g.F.ExitList.flows l.flows)) (range_with_len 0 l.number)
