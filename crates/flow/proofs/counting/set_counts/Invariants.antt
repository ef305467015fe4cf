use Rattle.std.proofs.Common.{◌+◌, ◌-◌, length, get_or, None}
use Rattle.flow.specs.TileLinks.{where_data}
use Rattle.flow.proofs.Ranges.{AreSet}
use Rattle.flow.proofs.counting.set_counts.Given as goal

abbrev pub invariant-loop-index : goal.invariant-loop-index
invariant-loop-index l = AreSet (λ i. where_data (get_or l.links.codes i None) (get_or l.totals i 0 + get_or l.added i
    0 - 1)) (length l.links.codes) l.index l.values
