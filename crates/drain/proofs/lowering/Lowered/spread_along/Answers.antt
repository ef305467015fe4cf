use Rattle.std.proofs.Common.{◌∙◌}
use Rattle.drain.proofs.Sound.{recorded}
use Rattle.drain.proofs.lowering.Lowered.spread_along.Goals as goal
use Rattle.drain.proofs.lowering.Lowered.spread_along.Goals.{in-Some+in_ok-record, in_default}

pub loop-col-preserved : goal.loop-col-preserved
loop-col-preserved c =
    let input = c.args.input.now in
    elim c.match-lower.branch [
      | in-Some+in_ok-record w ↦ record {
        bounds = rw w.self-is (w.record.ensures.bounds ∙ c.loop-col.invariant.bounds);
        changes = rw w.self-is (recorded _ _
            c.loop-col.invariant.changes w.in-Some.ensures.change w.record.ensures.changes);
      }
      | in_default w ↦ record {
        bounds = rw w.self-is c.loop-col.invariant.bounds;
        changes = rw w.self-is c.loop-col.invariant.changes;
      }
    ]
