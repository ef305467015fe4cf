use Rattle.std.proofs.Common.{None, get_or}
use Rattle.fill.specs.SpillGraph.{IsListOf, raised_by}
use Rattle.fill.proofs.raising.raised_by.Given as goal

abbrev pub invariant-loop-index : goal.invariant-loop-index
invariant-loop-index l =
    IsListOf (λ i. raised_by l.tiling l.levels (get_or l.flood.levels i None) (get_or l.flood.labels i None))
    l.index l.raised.items
