use Rattle.std.proofs.Common.{rules, sym, ◌∙◌}
use Rattle.std.specs.Int.{w64}
use Rattle.std.proofs.lemmas.Int.{to_z-of_z}
use Rattle.sightlines.specs.Sight.{place_of}
use Rattle.terrain.proofs.Heights.{height_in}
use Rattle.sightlines.proofs.Heights.{kept}
use Rattle.sightlines.proofs.Seen.{lines_are}
use Rattle.sightlines.proofs.line.lines_of_sight.Goals as goal

pub elevation-eye_elevation-requires-clause-height : goal.elevation-eye_elevation-requires-clause-height
elevation-eye_elevation-requires-clause-height c =
    let ground = c.in_ok-eye_ground.eye_ground in
    kept ground (height_in _ (place_of c.args.observer.now) ground c.cols-stride.ensures.lawful.terrain
    (sym c.at.ensures ∙ c.in_ok-eye_ground.was))

pub elevation-target_elevation-requires-clause-height : goal.elevation-target_elevation-requires-clause-height
elevation-target_elevation-requires-clause-height c =
    let ground = c.in_ok-target_ground.target_ground in
    kept ground (height_in _ c.args.target ground c.cols-stride.ensures.lawful.terrain
    (sym c.at-2.ensures ∙ c.in_ok-target_ground.was))

pub returns : goal.returns
returns c =
    let t = c.args.grid.now.terrain in
    let o = c.args.observer.now in
    let q = c.args.target in
    let eye = c.in_ok-eye_ground.eye_ground in
    let ground = c.in_ok-target_ground.target_ground in
    let eye_elevation = rw (to_z-of_z w64 eye (search rules)) at c.elevation-eye_elevation.ensures.value in
    let target_elevation = rw (to_z-of_z w64 ground (search rules)) at c.elevation-target_elevation.ensures.value in
    let near = sym c.is_in_reach.ensures ∙ c.if-not-is_in_reach.false in
    let eye_is = sym c.at.ensures ∙ c.in_ok-eye_ground.was in
    let ground_is = sym c.at-2.ensures ∙ c.in_ok-target_ground.was in
    let e_elevation = rw eye_elevation at c.elevation-eye_elevation.ensures.small in
    let f_elevation = rw target_elevation at c.elevation-target_elevation.ensures.small in
    rw (
      c.cols-stride.ensures.value,
      to_z-of_z w64 c.elevation-eye_elevation.result (search rules),
      to_z-of_z w64 c.elevation-target_elevation.result (search rules),
      eye_elevation,
      target_elevation,
    )
    (lines_are t o q c.args.target_height c.args.radius eye ground c.cols-stride.ensures.lawful.terrain
    c.requires.observer c.requires.target eye_is ground_is near e_elevation f_elevation)
