use Rattle.cell_floods.proofs.FirstSinks.{HasFirstSinks}
use Rattle.cell_floods.proofs.sinks.rectangle_sinks.Given as goal

abbrev pub invariant-loop-place : goal.invariant-loop-place
invariant-loop-place l = HasFirstSinks l.bounds l.places l.place-index l.sinks.items
