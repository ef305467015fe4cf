use Rattle.fill.specs.Gathering.{AddsMeetings}
use Rattle.fill.proofs.rim_joins.push_sides.Given as goal

abbrev pub invariant-loop-row : goal.invariant-loop-row
invariant-loop-row l = AddsMeetings l.tiles.tiling.now l.tiles.floods.now l.initial.joins.items l.joins.items
