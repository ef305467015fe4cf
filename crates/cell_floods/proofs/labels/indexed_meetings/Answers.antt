use Rattle.std.proofs.Common.{List, get_or, pos, sym, subst}
use Rattle.std.specs.List.{All, Contains}
use Rattle.std.proofs.lemmas.List.Elements.{All-push, Contains-get_or}
use Rattle.cell_floods.specs.Labels.{IsIndexedOf}
use Rattle.cell_floods.specs.declared.tile.Meeting.{Meeting}
use Rattle.cell_floods.proofs.labels.indexed_meetings.Goals as goal
use Rattle.cell_floods.proofs.labels.indexed_meetings.Goals.{in-Some+in_ok-push, in_default}

pub loop-meeting-preserved : goal.loop-meeting-preserved
loop-meeting-preserved c =
    let P = IsIndexedOf c.args.met.items c.args.meetings.items in
    let i = c.loop-meeting.meeting-index in
    let d : Meeting = record { from = 0; to = 0; level = pos 0 } in
    let nodes = get_or c.deref-meeting-items.result.now i d in
    elim c.match-indexed.branch [
      | in-Some+in_ok-push w ↦
          let listed = Contains-get_or c.deref-meeting-items.result.now i d c.loop-meeting-test.true in
          rw w.found-is (subst (All P) (sym w.in_ok-push.ensures.items) (All-push P
          c.loop-meeting.found.items w.in-Some.meeting c.loop-meeting.invariant (
            nodes,
            subst (λ (ms : List Meeting). Contains ms nodes) c.deref-meeting-items.ensures.value listed,
            rw c.deref.ensures.value at (rw w.in-Some.is at c.indexed.ensures),
          )))
      | in_default w ↦ rw w.found-is c.loop-meeting.invariant
    ]
