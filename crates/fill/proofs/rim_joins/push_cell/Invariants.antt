use Rattle.fill.specs.Gathering.{AddsMeetings}
use Rattle.fill.proofs.rim_joins.push_cell.Given as goal

abbrev pub invariant-loop-way : goal.invariant-loop-way
invariant-loop-way l = AddsMeetings l.tiles.tiling.now l.tiles.floods.now l.initial.joins.items l.joins.items
