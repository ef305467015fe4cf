use Rattle.std.proofs.Common.{ℕ, ◌+◌, ◌*◌, ◌<◌, ◌≤◌, nat_lt, arith}
use Rattle.std.proofs.lemmas.Bool.{cond_both, ltb-true, ltb-false}
use Rattle.tiles.specs.declared.bounds.Bounds.{Bounds}
use Rattle.tiles.specs.Cutting.{IsInBounds}
use Rattle.tiles.specs.RimNumbers.{stride, side_place}
use Rattle.flow.proofs.rim.ends_of_sides.Goals as goal

side_inside : (b : Bounds) (i : ℕ) → 1 ≤ b.rows → 1 ≤ b.cols → i < stride b → IsInBounds b (side_place b b i)
side_inside b i some_row some_col below =
    cond_both (nat_lt i b.cols) _ _ (IsInBounds b) (λ h. let top = ltb-true _ _ h in
    omega arith) (λ h. let under = ltb-false _ _ h in
    cond_both (nat_lt i (2 * b.cols)) _ _ (IsInBounds b) (λ k. let bottom = ltb-true _ _ k in
    omega arith) (λ k. let beside = ltb-false _ _ k in
    cond_both (nat_lt i (2 * b.cols + b.rows)) _ _ (IsInBounds b) (λ m. let left = ltb-true _ _ m in
    omega arith) (λ m. let right = ltb-false _ _ m in
    omega arith)))

pub index_of-requires-clause-inside : goal.index_of-requires-clause-inside
index_of-requires-clause-inside c =
    (rw (← c.side_place-place.ensures) at (side_inside c.args.bounds c.loop-side.side c.requires.some_row
    c.requires.small.some_col (omega arith)))
