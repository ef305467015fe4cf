use Rattle.std.proofs.Common.{pos}
use Rattle.std.proofs.lemmas.List.{take_all, take_more}
use Rattle.fill.specs.declared.spill_graph.Join.{Join}
use Rattle.fill.proofs.Placed.{placed_then, one_placed, not_placed}
use Rattle.fill.proofs.placing.placed_joins.Goals as goal
use Rattle.fill.proofs.placing.placed_joins.Goals.{in-Some+in_ok-push+in_ok-push-2, in_default}

pub loop-join-preserved : goal.loop-join-preserved
loop-join-preserved c =
    let nodes = c.args.nodes.now in
    let none : Join = record { from = 0; to = 0; height = pos 0 } in
    elim c.match-place_join.branch [
      | in-Some+in_ok-push+in_ok-push-2 w ↦
          rw (take_more c.args.joins.now c.loop-join.join-index none c.loop-join-test.true)
          (placed_then nodes _ _ c.loop-join.invariant
          (rw (w.placed-is, w.in_ok-push-2.ensures.items, w.in_ok-push.ensures.items, w.turned.ensures)
          (one_placed _ (rw w.in-Some.is at c.place_join.ensures))))
      | in_default w ↦
          rw (take_more c.args.joins.now c.loop-join.join-index none c.loop-join-test.true)
          (placed_then nodes _ _ c.loop-join.invariant
          (rw w.placed-is (not_placed (rw w.in_default.is at c.place_join.ensures))))
    ]

pub returns : goal.returns
returns c = rw (take_all _ _ c.loop-join-test.false) at c.loop-join.invariant
