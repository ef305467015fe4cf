use Rattle.std.proofs.Common.{inl}
use Rattle.fill.proofs.Adding.{meetings_added}
use Rattle.fill.proofs.rim_joins.push_cell.Goals as goal
use Rattle.fill.proofs.rim_joins.push_cell.Goals.{then-leads_out+in_ok-push_on_way, else-leads_out}

pub loop-way-preserved : goal.loop-way-preserved
loop-way-preserved c = elim c.if-leads_out.branch [
  | then-leads_out+in_ok-push_on_way w ↦
      rw w.joins-is (meetings_added c.args.tiles.now.tiling.now c.args.tiles.now.floods.now _ _ _ c.loop-way.invariant
      w.in_ok-push_on_way.ensures)
  | else-leads_out w ↦ rw w.joins-is c.loop-way.invariant
]

pub returns-in_default : goal.returns-in_default
returns-in_default c j there = inl there

pub loop-way-init : goal.loop-way-init
loop-way-init c j there = inl there
