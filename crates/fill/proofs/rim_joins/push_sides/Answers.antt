use Rattle.std.proofs.Common.{inl, arith}
use Rattle.fill.proofs.Adding.{meetings_then}
use Rattle.fill.proofs.rim_joins.push_sides.Goals as goal
use Rattle.fill.proofs.rim_joins.push_sides.Goals.{then-cols-gt1+in_ok-push_cell-2, else-cols-gt1}

pub push_cell-requires-clause-place : goal.push_cell-requires-clause-place
push_cell-requires-clause-place c = (omega arith)

pub loop-row-init : goal.loop-row-init
loop-row-init c j there = inl there

pub loop-row-preserved : goal.loop-row-preserved
loop-row-preserved c =
    let first =
    meetings_then c.args.tiles.now.tiling.now c.args.tiles.now.floods.now _ _ _ c.loop-row.invariant
    c.in_ok-push_cell.ensures in
    elim c.if-cols-gt1.branch [
      | then-cols-gt1+in_ok-push_cell-2 w ↦
          rw w.joins-is (meetings_then c.args.tiles.now.tiling.now c.args.tiles.now.floods.now _ _ _ first
          w.in_ok-push_cell-2.ensures)
      | else-cols-gt1 w ↦ rw w.joins-is first
    ]
