use Rattle.std.proofs.Common.{◌≡◌, map}
use Rattle.std.specs.List.{range_with_len}
use Rattle.flow.specs.RimGraph.{rim_outlet}
use Rattle.flow.proofs.outlets.rim_outlets.Given as goal

abbrev pub invariant-loop-number : goal.invariant-loop-number
invariant-loop-number g l =
    l.outlets.items ≡ map (rim_outlet l.tiling (g.F.ExitList.flows l.flows) l.ends) (range_with_len 0 l.number)
