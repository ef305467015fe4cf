use Rattle.std.proofs.lemmas.List.Elements.{All-push}
use Rattle.drain.specs.Counts.{IsChange}
use Rattle.drain.proofs.input.RoundInput.push_along.Goals as goal
use Rattle.drain.proofs.input.RoundInput.push_along.Goals.{in-Some+in_ok-push, in_default}

pub loop-col-preserved : goal.loop-col-preserved
loop-col-preserved c =
    let input = c.args.self.now in
    elim c.match-lower.branch [
      | in-Some+in_ok-push w ↦ rw (w.changes-is, w.in_ok-push.ensures.items)
          (All-push (IsChange input.terrain input.steps) _ _ c.loop-col.invariant
          w.in-Some.ensures.change)
      | in_default w ↦ rw w.changes-is c.loop-col.invariant
    ]
