-- A walk over columns, begun at either end of a line of sight, is blocked exactly if a crossing
-- with a column blocks. A walk over rows is blocked exactly if a crossing with a row blocks.
use Rattle.std.proofs.Common.{arith, refl, sym, ap, ◌∙◌, ◌≡◌, ◌+◌, ◌-◌, ◌*◌, ◌<◌, ◌≤◌, ℕ, ℤ, Option, None, get_or, length, max, inl, inr, List}
use Rattle.std.specs.Int.{abs_diff}
use Rattle.std.proofs.lemmas.Bool.{cases_lt}
use Rattle.std.proofs.lemmas.Nat.{mul-add-lt}
use Rattle.terrain.specs.Raster.{Terrain}
use Rattle.terrain.specs.Neighbours.{IsInside, height_at}
use Rattle.terrain.specs.declared.place.Place.{Place}
use Rattle.terrain.proofs.Places.{entry-inside}
use Rattle.sightlines.specs.Sight.{onward, sight, blocks, column_crossing, row_crossing, column_blocks, row_blocks, toward}
use Rattle.sightlines.specs.Walk.{whole_at, part_at, index_at, is_above, step_blocks, walk_blocks, columns_of, rows_of, over_columns, over_rows, CoversLine, steps_of}
use Rattle.sightlines.proofs.Steps.{whole_le, whole_lt}
use Rattle.sightlines.proofs.Toward.{onward_is}
use Rattle.sightlines.proofs.Ranges.{any_same, any_back}
use Rattle.std.specs.List.{list_any, range_with_len}
use Rattle.std.proofs.lemmas.Int.{ints}
use Rattle.sightlines.specs.declared.walk.Axis.{Axis}
use Rattle.sightlines.specs.declared.walk.Sightline.{Sightline}

above_same : (near near' far far' : Option ℤ) (v w : ℕ) (z : ℤ) → near ≡ near' → (0 < w → far ≡ far') →
    is_above near v far w z ≡ is_above near' v far' w z
above_same near near' far far' v w z e same = elim (cases_lt 0 w) [
  | inl some ↦ rw (e, same some) refl
  | inr none ↦
      let w_is : w ≡ 0 = omega arith in
      rw (e, w_is) refl
]

pub height_is : (t : Terrain) (r c i : ℕ) → r < t.rows → c < t.cols → i ≡ r * t.cols + c →
    height_at t (record { row = r; col = c }) ≡ get_or t.cells i None
height_is t r c i a b e =
    entry-inside _ _ t.cells (record { row = r; col = c }) a b ∙ ap (λ n. get_or t.cells n None) (sym e)

column_step : (t : Terrain) (p q : Place) (e f : ℤ) (k : ℕ) → IsInside t p → IsInside t q → 1 ≤ k →
    k < 1 + (abs_diff p.col q.col - 1) →
    let n = abs_diff p.col q.col in
    blocks t (column_crossing p q n k) (sight e f n k) ≡ step_blocks t.cells (columns_of p q) (rows_of t p q) e f n k
column_step t p q e f k inside_p inside_q low high =
    let n = abs_diff p.col q.col in
    let row = whole_at (rows_of t p q) n k in
    let col = onward p.col q.col k in
    let col_is : col ≡ whole_at (columns_of p q) n k = onward_is p.col q.col n k refl (omega arith) (omega arith) in
    let m = part_at (rows_of t p q) n k in
    let i = index_at (columns_of p q) (rows_of t p q) n k in
    let row_in : row < t.rows = omega (arith, whole_le (rows_of t p q) n k (omega arith) (omega arith)) in
    let col_in : col < t.cols = omega (arith, col_is, whole_le (columns_of p q) n k (omega arith) (omega arith)) in
    let near = height_is t row col i row_in col_in (omega (arith, col_is)) in
    let far : 0 < m → height_at t (record { row = row + 1; col = col }) ≡ get_or t.cells (i + t.cols) None =
    λ some.
    height_is t (row + 1) col (i + t.cols)
    (omega (arith, whole_lt (rows_of t p q) n k (omega arith) (omega arith) some)) col_in
    (omega (arith, col_is)) in
    above_same _ _ _ _ (n - m) m (sight e f n k) near far

row_step : (t : Terrain) (p q : Place) (e f : ℤ) (k : ℕ) → IsInside t p → IsInside t q → 1 ≤ k →
    k < 1 + (abs_diff p.row q.row - 1) →
    let n = abs_diff p.row q.row in
    blocks t (row_crossing p q n k) (sight e f n k) ≡ step_blocks t.cells (rows_of t p q) (columns_of p q) e f n k
row_step t p q e f k inside_p inside_q low high =
    let n = abs_diff p.row q.row in
    let row = onward p.row q.row k in
    let row_is : row ≡ whole_at (rows_of t p q) n k = onward_is p.row q.row n k refl (omega arith) (omega arith) in
    let col = whole_at (columns_of p q) n k in
    let m = part_at (columns_of p q) n k in
    let i = index_at (rows_of t p q) (columns_of p q) n k in
    let i_is : i ≡ row * t.cols + col = omega (arith, ap (λ x. x * t.cols) row_is) in
    let row_in : row < t.rows = omega (arith, row_is, whole_le (rows_of t p q) n k (omega arith) (omega arith)) in
    let col_in : col < t.cols = omega (arith, whole_le (columns_of p q) n k (omega arith) (omega arith)) in
    let near = height_is t row col i row_in col_in i_is in
    let far : 0 < m → height_at t (record { row = row; col = col + 1 }) ≡ get_or t.cells (i + 1) None =
    λ some.
    height_is t row (col + 1) (i + 1) row_in
    (omega (arith, whole_lt (columns_of p q) n k (omega arith) (omega arith) some)) (omega (arith, i_is)) in
    above_same _ _ _ _ (n - m) m (sight e f n k) near far

pub column_blocks-walk : (t : Terrain) (p q : Place) (e f : ℤ) → IsInside t p → IsInside t q →
    column_blocks t p q e f ≡ walk_blocks t.cells (over_columns t p q e f)
column_blocks-walk t p q e f a b =
    any_same _ _ 1 ((abs_diff p.col q.col) - 1) (λ k low high. column_step t p q e f k a b low high)

pub row_blocks-walk : (t : Terrain) (p q : Place) (e f : ℤ) → IsInside t p → IsInside t q →
    row_blocks t p q e f ≡ walk_blocks t.cells (over_rows t p q e f)
row_blocks-walk t p q e f a b =
    any_same _ _ 1 ((abs_diff p.row q.row) - 1) (λ k low high. row_step t p q e f k a b low high)

pub columns_in_list : (t : Terrain) (p q : Place) → length t.cells ≡ t.cols * t.rows → IsInside t p → IsInside t q →
    CoversLine t.cells (columns_of p q) (rows_of t p q)
columns_in_list t p q size a b = omega (
  arith,
  size,
  mul-add-lt (max p.row q.row) t.cols (max p.col q.col) t.rows (omega arith) (omega arith),
)

pub rows_in_list : (t : Terrain) (p q : Place) → length t.cells ≡ t.cols * t.rows → IsInside t p → IsInside t q →
    CoversLine t.cells (rows_of t p q) (columns_of p q)
rows_in_list t p q size a b = omega (
  arith,
  size,
  mul-add-lt (max p.row q.row) t.cols (max p.col q.col) t.rows (omega arith) (omega arith),
)

toward_back : (a b n k : ℕ) → k ≤ n → toward b a n k ≡ toward a b n (n - k)
toward_back a b n k h =
    let left : n - (n - k) ≡ k = omega arith in
    rw left (omega arith)

sight_back : (e f : ℤ) (n k : ℕ) → k ≤ n → sight f e n k ≡ sight e f n (n - k)
sight_back e f n k h =
    let left : n - (n - k) ≡ k = omega arith in
    rw left (omega (arith, ints))

abbrev back : Axis → Axis
back a = record { from = a.to; to = a.from; stride = a.stride }

step_back : (cells : List (Option ℤ)) (lead side : Axis) (e f : ℤ) (n k : ℕ) → k ≤ n →
    step_blocks cells (back lead) (back side) f e n k ≡ step_blocks cells lead side e f n (n - k)
step_back cells lead side e f n k h =
    rw (toward_back lead.from lead.to n k h, toward_back side.from side.to n k h, sight_back e f n k h) refl

abbrev pub reversed : Sightline → Sightline
reversed l = record {
  lead = back l.lead;
  side = back l.side;
  from_elevation = l.to_elevation;
  to_elevation = l.from_elevation;
}

pub walk_back : (cells : List (Option ℤ)) (l : Sightline) → walk_blocks cells (reversed l) ≡ walk_blocks cells l
walk_back cells l =
    let n = steps_of l in
    let same : steps_of (reversed l) ≡ n = omega arith in
    ap (λ n.
    list_any (λ k. step_blocks cells (back l.lead) (back l.side) l.to_elevation l.from_elevation n k)
    (range_with_len 1 (n - 1))) same ∙
    any_back _ _ n (λ k low high. step_back cells l.lead l.side l.from_elevation l.to_elevation n k (omega arith))
