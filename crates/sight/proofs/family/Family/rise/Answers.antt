use Rattle.std.proofs.Common.{arith, ap, ◌∙◌, pos}
use Rattle.std.specs.Prelude.{unwrap_or}
use Rattle.std.proofs.lemmas.Int.{ints}
use Rattle.terrain.specs.Raster.{IsHeight}
use Rattle.sightlines.proofs.Heights.{ground_is_height}
use Rattle.sight.proofs.family.Family.rise.Goals as goal

pub overflow_add-result : goal.overflow_add-result
overflow_add-result c =
    let is : IsHeight c.unwrap_or-ground.result =
    rw c.unwrap_or-ground.ensures (ground_is_height _ c.height_of.ensures.height) in
    omega (arith, ints, is)

pub overflow_sub-result : goal.overflow_sub-result
overflow_sub-result c =
    let is : IsHeight c.unwrap_or-ground.result =
    rw c.unwrap_or-ground.ensures (ground_is_height _ c.height_of.ensures.height) in
    omega (arith, ints, is)

pub returns-clause-small : goal.returns-clause-small
returns-clause-small c =
    let is : IsHeight c.unwrap_or-ground.result =
    rw c.unwrap_or-ground.ensures (ground_is_height _ c.height_of.ensures.height) in
    omega (arith, ints, is)

pub returns-clause-value : goal.returns-clause-value
returns-clause-value c y stands =
    let ground = c.unwrap_or-ground.result in
    let small : IsHeight ground = rw c.unwrap_or-ground.ensures (ground_is_height _ c.height_of.ensures.height) in
    let is = c.unwrap_or-ground.ensures ∙ ap (λ h. unwrap_or h (pos 0)) (c.height_of.ensures.value y stands) in
    omega (arith, ints, is, small)
