use Rattle.std.proofs.Common.{inl}
use Rattle.fill.proofs.Adding.{meetings_then}
use Rattle.fill.proofs.rim_joins.push_last_row.Goals as goal

pub loop-col-init : goal.loop-col-init
loop-col-init c j there = inl there

pub loop-col-preserved : goal.loop-col-preserved
loop-col-preserved c =
    meetings_then c.args.tiles.now.tiling.now c.args.tiles.now.floods.now _ _ _ c.loop-col.invariant
    c.in_ok-push_cell.ensures
