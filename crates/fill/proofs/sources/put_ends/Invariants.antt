use Rattle.fill.proofs.EndSources.{PutsFirst}
use Rattle.fill.proofs.sources.put_ends.Given as goal

abbrev pub invariant-loop-index : goal.invariant-loop-index
invariant-loop-index l = PutsFirst l.tiling l.flood l.index l.initial.heights.items l.heights.items
