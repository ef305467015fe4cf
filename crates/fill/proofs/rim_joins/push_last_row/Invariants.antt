use Rattle.fill.specs.Gathering.{AddsMeetings}
use Rattle.fill.proofs.rim_joins.push_last_row.Given as goal

abbrev pub invariant-loop-col : goal.invariant-loop-col
invariant-loop-col l = AddsMeetings l.tiles.tiling.now l.tiles.floods.now l.initial.joins.items l.joins.items
