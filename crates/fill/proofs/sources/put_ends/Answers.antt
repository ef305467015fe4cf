use Rattle.std.proofs.Common.{IfSome, get_or, None, length, ◌<◌, ap, ◌∙◌, arith}
use Rattle.std.proofs.lemmas.List.{get_or_default}
use Rattle.tiles.specs.Cutting.{IsWithin}
use Rattle.fill.proofs.CellLabels.{all_within}
use Rattle.fill.proofs.EndSources.{one_put, all_put}
use Rattle.fill.proofs.sources.put_ends.Goals as goal
use Rattle.fill.proofs.sources.put_ends.Goals.{After-place}

-- The places of the table lie in the grid.
inside : (c : goal.After-place) → IfSome c.place.result (IsWithin c.args.tiling.now)
inside c =
    rw c.place.ensures
    ((all_within c.args.flood.now _ _ c.labels-labels.ensures.labels c.args.tiling.now c.count-index-end.ensures.table
    c.requires.labels) c.loop-index.index None (omega (arith, c.loop-index-test.true, c.count-index-end.ensures.value)))

pub put_end-requires-clause-label : goal.put_end-requires-clause-label
put_end-requires-clause-label c = inside (goal.at.put_end-requires-clause-label c).After-place

pub loop-index-preserved : goal.loop-index-preserved
loop-index-preserved c =
    let f = c.args.flood.now in
    let i = c.loop-index.index in
    let places = ap (λ z. z.places) c.labels-labels.ensures.value in
    let low : i < length f.ends =
    omega (arith, c.loop-index-test.true, c.count-index-end.ensures.value, ap length places, c.requires.ends) in
    rw c.put_end.ensures (one_put i _ _ (c.place.ensures ∙ ap (λ z. get_or z i None) places) (c.index-ends-index.is ∙
    ap (λ z. get_or z i c.index-ends-index.result) c.ends-ends.ensures.value ∙ get_or_default _ i _ None low)
    (inside (goal.at.loop-index-preserved c).After-place) c.requires.size c.loop-index.invariant)

pub returns-clause-puts : goal.returns-clause-puts
returns-clause-puts c =
    all_put (omega (
      arith,
      c.loop-index-test.false,
      c.count-index-end.ensures.value,
      ap length (ap (λ z. z.places) c.labels-labels.ensures.value),
    )) c.loop-index.invariant
