use Rattle.drain.proofs.rounds.push_after.Goals as goal
use Rattle.drain.proofs.rounds.push_after.Goals.{then-is_last+then-has_on_rim+in_ok-push_around, else-is_last}

pub loop-index-preserved : goal.loop-index-preserved
loop-index-preserved c =
    elim c.if-is_last.branch [
      | then-is_last+then-has_on_rim+in_ok-push_around w ↦
          rw w.changes-is w.in_ok-push_around.ensures
      | else-is_last w ↦ rw w.changes-is c.loop-index.invariant
    ]
