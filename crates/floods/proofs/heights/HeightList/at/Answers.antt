use Rattle.std.proofs.Common.{rules, ◌≡◌, ◌<◌, ◌∙◌, length, Some, None, get_or, false, sym, ap, arith}
use mir.Val.{SFits}
use Rattle.std.proofs.lemmas.Int.{to_z-of_z}
use Rattle.std.proofs.lemmas.List.{get_or_read}
use Rattle.terrain.proofs.Heights.{height_width}
use Rattle.floods.specs.Notes.{lack, noted}
use Rattle.floods.proofs.HeightLists.{length-where, where-at, noted_flagged, noted_other, noted_none}
use Rattle.floods.proofs.heights.HeightList.at.Goals as goal
use Rattle.floods.proofs.heights.HeightList.at.Goals.{then-not-is_lack, else-not-is_lack}
use Rattle.std.specs.Ordering.{int_eq}

pub index-height-requires : goal.index-height-requires
index-height-requires c = omega (arith, c.requires, ap length c.self.view_is, length-where _ _ c.self.inside.size)

pub index-requires : goal.index-requires
index-requires c = omega (
  arith,
  c.requires,
  ap length c.self.view_is,
  length-where _ _ c.self.inside.size,
  c.self.inside.size,
)

pub returns-then-index : goal.returns-then-index
returns-then-index c =
    let heights = c.self.inside.heights.items in
    let flags = c.self.inside.greatest.items in
    let i = c.args.index in
    let inside : i < length heights =
    omega (arith, c.requires, ap length c.self.view_is, length-where _ _ c.self.inside.size) in
    let fits : SFits height_width c.index-height.result.now = search rules in
    let here =
    to_z-of_z height_width _ fits ∙
    get_or_read heights i c.index-height.result.now inside c.index-height.ensures lack in
    let lacks = c.is_lack.ensures ∙ ap (λ z. int_eq z lack) here in
    let is : noted (get_or flags i false) (get_or heights i lack) ≡ Some (get_or heights i lack) =
    elim c.if-not-is_lack.branch [
      | then-not-is_lack w ↦ noted_other _ _ (cc)
      | else-not-is_lack w ↦
          noted_flagged _
          (cc (get_or_read flags i w.index.result.now (omega (arith, inside, c.self.inside.size)) w.index.ensures
          false))
    ] in
    cc (where-at flags heights i c.self.inside.size)

pub returns-else-index : goal.returns-else-index
returns-else-index c =
    let heights = c.self.inside.heights.items in
    let flags = c.self.inside.greatest.items in
    let i = c.args.index in
    let inside : i < length heights =
    omega (arith, c.requires, ap length c.self.view_is, length-where _ _ c.self.inside.size) in
    let here = to_z-of_z height_width _ (search rules) ∙ get_or_read heights i _ inside c.index-height.ensures lack in
    let lacks = c.is_lack.ensures ∙ ap (λ z. int_eq z lack) here in
    sym (where-at flags heights i c.self.inside.size ∙ elim c.if-not-is_lack.branch [
      | then-not-is_lack w ↦ absurd (cc w.if-not-is_lack.true)
      | else-not-is_lack w ↦
          noted_none _ (sym lacks ∙ w.if-not-is_lack.false)
          (sym (get_or_read flags i w.index.result.now (omega (arith, inside, c.self.inside.size)) w.index.ensures
          false) ∙ sym w.value-is ∙ c.if-index.false)
    ]) ∙ ap (λ l. get_or l i None) c.self.view_is
