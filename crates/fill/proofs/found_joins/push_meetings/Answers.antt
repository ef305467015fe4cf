use Rattle.std.proofs.Common.{◌+◌, rules, ◌∷◌, ◌++◌, [], map, get_or, pos, ap, sym, ◌∙◌}
use Rattle.std.proofs.lemmas.Int.{to_z-of_z}
use Rattle.terrain.proofs.Heights.{height_width}
use Rattle.std.proofs.lemmas.List.{append_assoc, map-append, take_all, take_more}
use Rattle.cell_floods.specs.declared.tile.Meeting.{Meeting}
use Rattle.fill.specs.Crests.{numbered}
use Rattle.fill.proofs.found_joins.push_meetings.Goals as goal

pub loop-meeting-preserved : goal.loop-meeting-preserved
loop-meeting-preserved c =
    let none : Meeting = record { from = 0; to = 0; level = pos 0 } in
    let met = c.args.meetings.now in
    let index = c.loop-meeting.meeting-index in
    let x = get_or met index none in
    c.in_ok-push.ensures.items ∙ ap (λ h. c.loop-meeting.joins.items
    ++ record { from = c.args.first + x.from; to = c.args.first + x.to; height = h } ∷ [])
    (to_z-of_z height_width _ (search rules)) ∙ ap (λ z. z ++ numbered c.args.first x ∷ []) c.loop-meeting.invariant ∙
    append_assoc c.args.joins.now.items _ _ ∙
    ap (λ z. c.args.joins.now.items ++ z)
    (sym (map-append _ _ _) ∙ ap (map (numbered _)) (sym (take_more met index none c.loop-meeting-test.true)))

pub returns : goal.returns
returns c = cc (take_all _ _ c.loop-meeting-test.false)
