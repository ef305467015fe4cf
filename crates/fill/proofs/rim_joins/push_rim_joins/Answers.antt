use Rattle.fill.proofs.Adding.{meetings_then}
use Rattle.fill.proofs.rim_joins.push_rim_joins.Goals as goal

pub returns : goal.returns
returns c =
    meetings_then c.args.tiles.now.tiling.now c.args.tiles.now.floods.now _ _ _ c.in_ok-push_sides.ensures
    c.in_ok-push_last_row.ensures
