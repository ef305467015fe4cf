use Rattle.std.proofs.Common.{rules, ◌≡◌, ◌<◌, ◌∙◌, ap, arith, None, get_or, length, of_z, to_z, unwrap_or}
use mir.Val.{SFits}
use Rattle.std.proofs.lemmas.Bool.{and_parts}
use Rattle.std.proofs.lemmas.Int.{ints, to_z-of_z}
use Rattle.std.proofs.lemmas.List.{get_or_default}
use Rattle.std.proofs.lemmas.List.Elements.{All-get_or, All-more}
use Rattle.terrain.specs.StoredCells.{no_data}
use Rattle.terrain.proofs.Heights.{height_width}
use Rattle.floods.specs.Flood.{entry_of}
use Rattle.floods.proofs.HeightLists.{is_low}
use Rattle.cell_floods.specs.Spreading.{IsNoneBelow}
use Rattle.cell_floods.proofs.spreading.Spreading.has_none_below.Goals as goal

pub loop-node-preserved : goal.loop-node-preserved
loop-node-preserved c = λ all.
    let parts = and_parts _ _ all in
    let levels = c.args.self.now.levels.items in
    let around = c.args.around.now in
    let i = c.loop-node.node-index in
    let inside : i < length around = omega (arith, c.loop-node-test.true, c.told-around) in
    let low = All-get_or (λ b. b < length levels) around i 0 inside c.requires in
    let own : SFits height_width c.number.result = search rules in
    let other : SFits height_width c.number-in-loop-node.result = search rules in
    let entry : c.index.result.now ≡ entry_of levels (get_or around i 0) =
    c.index.ensures ∙ get_or_default levels (get_or around i 0) _ None low in
    All-more (IsNoneBelow (unwrap_or c.args.level no_data) levels) around i 0 inside
    (c.loop-node.invariant parts.0) (omega (
      arith,
      ints,
      is_low (to_z height_width (of_z height_width c.number.result))
          (to_z height_width (of_z height_width c.number-in-loop-node.result)) parts.1,
      to_z-of_z height_width c.number.result own,
      to_z-of_z height_width c.number-in-loop-node.result other,
      c.number.ensures,
      c.number-in-loop-node.ensures ∙ ap (λ o. unwrap_or o no_data) entry,
    ))
