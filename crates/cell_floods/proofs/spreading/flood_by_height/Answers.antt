use Rattle.std.proofs.Common.{rules, arith, length, ◌≡◌, ◌≤ℤ◌, subst, sym, true, unwrap_or, ◌∙◌}
use mir.Val.{SFits}
use Rattle.std.specs.List.{All}
use Rattle.std.proofs.lemmas.Bool.{OnTrue_at}
use Rattle.std.proofs.lemmas.Int.{to_z-of_z}
use Rattle.terrain.proofs.Heights.{height_width}
use Rattle.terrain.specs.StoredCells.{no_data}
use Rattle.floods.specs.Notes.{numbered_labels}
use Rattle.floods.specs.Walk.{IsFlooded}
use Rattle.cell_floods.specs.Cells.{Cells, IsBordered, IsCellJoin, source_of}
use Rattle.cell_floods.specs.Spreading.{IsNodeMeeting, IsPart, IsSound, Spreads}
use Rattle.cell_floods.proofs.SpreadSteps.{begun, flooded, later}
use Rattle.cell_floods.proofs.spreading.flood_by_height.Goals as goal

pub loop-node-init : goal.loop-node-init
loop-node-init c =
    let x = c.in_ok-spreading.spreading in
    let is = c.in_ok-spreading.ensures in
    record {
      net = is.net;
      sound = record {
        part = subst (λ n. IsPart _ n x.levels.items x.labels.items) (sym is.net)
            (begun _ c.args.net.now _ _ c.cells.ensures.bordered is.levels is.sources);
        meetings = rw is.meetings (λ k d low. absurd (omega (arith, low)));
      };
    }

pub take_turn-requires-clause-sound : goal.take_turn-requires-clause-sound
take_turn-requires-clause-sound c =
    let x = c.loop-node.spreading in
    let up : c.loop-node.now ≤ℤ c.in-Some.height = search rules in
    subst (λ o. IsSound (unwrap_or o no_data) x) (sym c.in-Some.ensures.1)
    (later c.loop-node.now c.in-Some.height x up
    (subst (λ z. IsSound z x) c.loop-node.now-is c.loop-node.invariant.sound))

pub loop-node-preserved : goal.loop-node-preserved
loop-node-preserved c =
    let fits : SFits height_width c.in-Some.height = search rules in
    let spread = subst (λ o. Spreads (unwrap_or o no_data) c.loop-node.spreading
    c.take_turn.new.self) c.in-Some.ensures.1 c.in_ok-take_turn.ensures in
    rw (to_z-of_z height_width c.in-Some.height fits)
    (record { net = spread.net ∙ c.loop-node.invariant.net; sound = spread.sound })

pub returns-clause-flooded : goal.returns-clause-flooded
returns-clause-flooded c =
    let x = c.loop-node.spreading in
    let end = c.loop-node.invariant in
    let complete : c.is_flooded.result ≡ true = search rules in
    let certain = OnTrue_at complete c.is_flooded.ensures in
    subst (λ (m : Cells). IsFlooded (IsCellJoin m) (source_of m) (length m.cells) x.levels.items
    (numbered_labels x.labels.items)) end.net (flooded _ x.net.now _ _
    (subst IsBordered (sym end.net) c.cells.ensures.bordered) end.sound.part certain.0 certain.1)

pub returns-clause-meetings : goal.returns-clause-meetings
returns-clause-meetings c =
    let x = c.loop-node.spreading in
    let end = c.loop-node.invariant in
    subst (λ m. All (IsNodeMeeting m x.levels.items (numbered_labels x.labels.items)) x.meetings.items)
    end.net (λ k d low. (end.sound.meetings k d low).2)
