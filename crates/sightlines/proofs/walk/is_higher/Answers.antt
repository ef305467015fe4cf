use Rattle.std.proofs.Common.{rules, arith, ◌+◌, ◌<◌, ◌+ℤ◌, sym, FitsSigned}
use Rattle.std.specs.Int.{w64}
use Rattle.std.proofs.lemmas.Int.{to_z-of_z}
use Rattle.sightlines.proofs.Heights.{kept, has_height}
use Rattle.sightlines.proofs.Ground.{above_both}
use Rattle.sightlines.proofs.walk.is_higher.Goals as goal

pub weigh-requires-clause-height : goal.weigh-requires-clause-height
weigh-requires-clause-height c =
    kept _ (c.requires.heights c.args.index c.in-Some.near
    (has_height c.args.cells.now _ c.index-cells-index.is c.height.ensures c.in-Some.is c.requires.near))

pub weigh-requires-2-clause-height : goal.weigh-requires-2-clause-height
weigh-requires-2-clause-height c =
    kept _ (c.requires.heights c.args.index c.in-Some.near
    (has_height c.args.cells.now _ c.index-cells-index.is c.height.ensures c.in-Some.is c.requires.near))

pub weigh-requires-3-clause-height : goal.weigh-requires-3-clause-height
weigh-requires-3-clause-height c =
    kept _ (c.requires.heights (c.args.index + c.args.beside) c.in-Some-height.far
    (has_height c.args.cells.now (c.args.index + c.args.beside) c.index-cells-index-2.is c.height-2.ensures
    c.in-Some-height.is (omega arith)))

pub returns : goal.returns
returns c =
    let near : FitsSigned w64 c.in-Some.near = search rules in
    let far : FitsSigned w64 c.in-Some-height.far = search rules in
    let one : FitsSigned w64 c.weigh-2.result = search rules in
    let two : FitsSigned w64 c.weigh-3.result = search rules in
    let sight : FitsSigned w64 c.args.sight = search rules in
    let both : FitsSigned w64 (c.weigh-2.result +ℤ c.weigh-3.result) = search rules in
    let some_far : 0 < c.args.far_weight = omega arith in
    let some_near : 0 < c.args.near_weight = omega arith in
    let near_is = has_height c.args.cells.now _ c.index-cells-index.is c.height.ensures c.in-Some.is c.requires.near in
    let far_is =
    has_height c.args.cells.now (c.args.index + c.args.beside) c.index-cells-index-2.is c.height-2.ensures
    c.in-Some-height.is (omega arith) in
    rw (near_is, far_is) (simp to_z-of_z (rw
    (simp to_z-of_z at c.weigh-2.ensures.value, simp to_z-of_z at c.weigh-3.ensures.value)
    (sym (above_both c.in-Some.near c.in-Some-height.far _ _ c.args.sight some_near some_far))))
