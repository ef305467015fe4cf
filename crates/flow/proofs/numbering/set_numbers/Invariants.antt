use Rattle.std.proofs.Common.{length, get_or, None}
use Rattle.flow.specs.TileLinks.{where_data}
use Rattle.flow.proofs.Ranges.{AreSet}
use Rattle.flow.proofs.numbering.set_numbers.Given as goal

abbrev pub invariant-loop-index : goal.invariant-loop-index
invariant-loop-index l = AreSet (λ i. where_data (get_or l.links.codes i None) (get_or l.numbers i 0))
    (length l.links.codes) l.index l.values
