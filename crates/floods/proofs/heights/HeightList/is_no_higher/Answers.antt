use Rattle.std.proofs.Common.{rules, ◌<◌, ◌∙◌, length, false, sym, ap, arith, refl}
use Rattle.std.specs.Ordering.{int_eq}
use Rattle.std.proofs.lemmas.Int.{to_z-of_z}
use Rattle.std.proofs.lemmas.List.{get_or_read}
use Rattle.terrain.proofs.Heights.{height_width}
use Rattle.floods.specs.Notes.{lack}
use Rattle.floods.proofs.HeightLists.{length-where, noted_flagged, noted_other, flagged_there, no_higher, no_higher_is, is_low, low_is}
use Rattle.floods.proofs.heights.HeightList.is_no_higher.Goals as goal

pub index-noted-requires : goal.index-noted-requires
index-noted-requires c = omega (arith, c.requires, ap length c.self.view_is, length-where _ _ c.self.inside.size)

pub index-requires : goal.index-requires
index-requires c = omega (
  arith,
  c.requires,
  ap length c.self.view_is,
  length-where _ _ c.self.inside.size,
  c.self.inside.size,
)

pub returns-then-not-is_lack : goal.returns-then-not-is_lack
returns-then-not-is_lack c =
    let value =
    get_or_read c.self.inside.heights.items c.args.index c.index-noted.result.now
    (omega (arith, c.requires, ap length c.self.view_is, length-where _ _ c.self.inside.size)) c.index-noted.ensures
    lack in
    let here = to_z-of_z height_width c.index-noted.result.now (search rules) in
    let low =
    is_low _ _ (rw (here, to_z-of_z height_width c.args.height (search rules), value) at c.if-noted-height.true) in (
      λ _. no_higher _ _ c.args.index c.args.height c.self.inside.size c.self.view_is
          (noted_other _ _ (sym (c.is_lack.ensures ∙ ap (λ z. int_eq z lack) (here ∙ value)) ∙ c.if-not-is_lack.true))
          low,
      λ _. rw c.if-not-is_lack.true refl,
    )

pub returns-else-not-is_lack : goal.returns-else-not-is_lack
returns-else-not-is_lack c =
    let inside : c.args.index < length c.self.inside.heights.items =
    omega (arith, c.requires, ap length c.self.view_is, length-where _ _ c.self.inside.size) in
    let value = get_or_read _ _ _ inside c.index-noted.ensures lack in
    let here = to_z-of_z height_width c.index-noted.result.now (search rules) in
    let flagged =
    get_or_read c.self.inside.greatest.items c.args.index c.index.result.now (omega (arith, inside, c.self.inside.size))
    c.index.ensures false in
    let low =
    is_low _ _ (rw (here, to_z-of_z height_width c.args.height (search rules), value) at c.if-noted-height.true) in (
      λ is. no_higher _ _ c.args.index c.args.height c.self.inside.size c.self.view_is
          (noted_flagged _ (sym flagged ∙ is)) low,
      λ s. flagged ∙
          flagged_there _ _ (sym (c.is_lack.ensures ∙ ap (λ z. int_eq z lack) (here ∙ value)) ∙ c.if-not-is_lack.false)
          (no_higher_is _ _ c.args.index c.args.height c.self.inside.size c.self.view_is s).0,
    )

pub returns-else-noted-height : goal.returns-else-noted-height
returns-else-noted-height c =
    let value =
    get_or_read c.self.inside.heights.items c.args.index c.index-noted.result.now
    (omega (arith, c.requires, ap length c.self.view_is, length-where _ _ c.self.inside.size)) c.index-noted.ensures
    lack in
    let here = to_z-of_z height_width c.index-noted.result.now (search rules) in (
      λ is. absurd (cc),
      λ s. rw (here, to_z-of_z height_width c.args.height (search rules), value)
          (low_is _ _ (no_higher_is _ _ c.args.index c.args.height c.self.inside.size c.self.view_is s).1),
    )
