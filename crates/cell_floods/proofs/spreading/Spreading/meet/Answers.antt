use Rattle.std.proofs.Common.{rules, ◌≡◌, refl, subst, sym, ◌∙◌, arith}
use mir.Val.{SFits}
use Rattle.std.specs.List.{All}
use Rattle.std.proofs.lemmas.Int.{to_z-of_z}
use Rattle.terrain.proofs.Heights.{height_width}
use Rattle.std.proofs.lemmas.List.{get_or_default}
use Rattle.std.proofs.lemmas.List.Elements.{All-push}
use Rattle.floods.specs.Notes.{no_label}
use Rattle.cell_floods.specs.Spreading.{IsLabelMeeting, number_of}
use Rattle.cell_floods.proofs.SpreadSteps.{meeting, number_inside}
use Rattle.cell_floods.proofs.spreading.Spreading.meet.Goals as goal

pub returns-in_ok-push : goal.returns-in_ok-push
returns-in_ok-push c =
    let x = c.args.self.now in
    let by = c.requires.beside in
    let low = number_inside x.labels.items c.args.to (omega (arith, c.requires.labelled)) in
    let own : c.index-own.result.now ≡ number_of x.labels.items c.args.to =
    c.index-own.ensures ∙ get_or_default _ c.args.to _ no_label low in
    let fits : SFits height_width c.number.result = search rules in
    let new : IsLabelMeeting x
    (record { from = c.args.label; to = c.index-own.result.now; level = c.number.result }) =
    rw (own, c.number.ensures) (
      omega (arith, by.labelled, by.label_is),
      c.requires.labelled,
      meeting _ c.args.label c.args.to x c.requires.sound by c.requires.labelled,
    ) in
    record {
      net = refl;
      sound = record {
        part = c.requires.sound.part;
        meetings = subst (All (IsLabelMeeting x)) (sym c.in_ok-push.ensures.items)
            (rw (to_z-of_z height_width c.number.result fits)
            (All-push (IsLabelMeeting x) x.meetings.items _ c.requires.sound.meetings new));
      };
      kept = λ a has. (refl, refl);
      work = omega arith;
    }
