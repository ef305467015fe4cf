-- Rows inside the border of a list lie in the list. The levels that a flood finds for a whole grid
-- are its filled heights.
use Rattle.std.proofs.Common.{◌⊎◌, ◌≡◌, ℕ, zero, suc, ◌+◌, ◌-◌, ◌*◌, ◌<◌, ◌≤◌, inl, inr, ℤ, List, [], ◌∷◌, length, map, ◌++◌, refl, get_or, take, drop, Option, None, is_some, ◌∙◌, sym, ap, arith, length-append, length-drop, length-take-le}
use Rattle.std.proofs.Math.Nat.{add-sub_cancel_left}
use Rattle.std.proofs.lemmas.Bool.{cases_eq}
use Rattle.std.proofs.lemmas.Nat.{mul-add-lt, mul-le}
use Rattle.std.proofs.lemmas.List.{take-map, drop-map, map-append, get_or_append_left, get_or-append_right, get_or-drop, get_or-take}
use Rattle.std.proofs.lemmas.Slice.{between_is}
use Rattle.std.specs.Prelude.{slice_range}
use Rattle.terrain.proofs.Options.{match_of}
use Rattle.terrain.specs.Raster.{Terrain}
use Rattle.terrain.specs.Neighbours.{height_at, entry_at, IsDataCell, IsEnd}
use Rattle.drainage.specs.Filled.{IsPath, IsFilledHeight, IsFilled}
use Rattle.terrain.specs.declared.place.Place.{Place}
use Rattle.terrain.proofs.Places.{gap_at_end, none_outside, entry-inside}
use Rattle.drainage.proofs.Reach.{data_inside}
use Rattle.tiles.specs.Cutting.{IsInBounds}
use Rattle.floods.specs.Walk.{IsFlooded}
use Rattle.cell_floods.specs.Cells.{Cells, node_at, IsNetOf, IsCellJoin, source_of, whole, inner_rows}
use Rattle.cell_floods.proofs.Rectangles.{IsOnRim, IsRectangleSource, IsRectanglePath, IsRectangleLevel, end_is_source, rectangle_level, rectangle_none}

-- A row inside the border lies in the list, which has at most 4098 by 4098 entries.
pub inner_row_ends : (rows cols row len : ℕ) → len ≡ (rows + 2) * (cols + 2) → cols ≤ 4096 →
    rows ≤ 4096 → row < rows → ((row + 1) * (cols + 2) + 1 + cols ≤ len) × (len ≤ 16793604)
inner_row_ends rows cols row len size few_cols few_rows below = (
  omega
      (arith, mul-le (row + 2) (cols + 2) (rows + 2) (cols + 2) (omega arith) (omega arith), size),
  omega (arith, mul-le (rows + 2) (cols + 2) 4098 4098 (omega arith) (omega arith), size),
)

pub length-inner_rows : {X : Type 0} (list : List X) (cols count : ℕ) →
    (count + 1) * (cols + 2) ≤ length list → length (inner_rows list cols count) ≡ count * cols
length-inner_rows list cols zero h = omega arith
length-inner_rows list cols (suc count) h =
    let from = (count + 1) * (cols + 2) + 1 in
    let was = length-inner_rows list cols count (omega arith) in
    let row : length (drop from (take (from + cols) list)) ≡ cols =
    length-drop from (take (from + cols) list)
    ∙ ap (λ n. n - from) (length-take-le (from + cols) list (omega arith)) ∙ omega arith in
    length-append (inner_rows list cols count) _
    ∙ omega (arith, was, ap length (between_is list from (from + cols)) ∙ row)

pub inner_rows-map : {X Y : Type 0} (f : X → Y) (list : List X) (cols count : ℕ) →
    inner_rows (map f list) cols count ≡ map f (inner_rows list cols count)
inner_rows-map f list cols zero = refl
inner_rows-map f list cols (suc count) =
    let from = (count + 1) * (cols + 2) + 1 in
    let row : slice_range (map f list) from (from + cols)
    ≡ map f (slice_range list from (from + cols)) =
    between_is (map f list) from (from + cols)
    ∙ ap (drop from) (take-map f (from + cols) list) ∙ drop-map f from (take (from + cols) list)
    ∙ ap (map f) (sym (between_is list from (from + cols))) in
    ap (λ z. z ++ slice_range (map f list) from (from + cols)) (inner_rows-map f list cols count)
    ∙ ap (λ z. map f (inner_rows list cols count) ++ z) row
    ∙ sym (map-append f (inner_rows list cols count) _)

pub inner_rows_at : {X : Type 0} (list : List (Option X)) (cols count : ℕ) → (count + 1) * (cols
    + 2) ≤ length list → (r c : ℕ) → r < count → c < cols → get_or (inner_rows list cols count)
    (r * cols + c) None ≡ get_or list ((r + 1) * (cols + 2) + (c + 1)) None
inner_rows_at list cols zero h r c below inside = absurd (omega arith)
inner_rows_at list cols (suc count) h r c below inside =
    let from = (count + 1) * (cols + 2) + 1 in
    let len = length-inner_rows list cols count (omega arith) in
    elim (cases_eq r count) [
      | inl same ↦
          ap (λ n. get_or (inner_rows list cols (suc count)) (n * cols + c) None) same
          ∙ get_or-append_right (inner_rows list cols count) _ (count * cols) (count * cols
          + c) None len (omega arith)
          ∙ ap (λ n. get_or (slice_range list from (from + cols)) n None)
          (add-sub_cancel_left (count * cols) c)
          ∙ ap (λ z. get_or z c None) (between_is list from (from + cols))
          ∙ get_or-drop from (take (from + cols) list) c None
          ∙ get_or-take (from + cols) list (from + c) None (omega arith)
          ∙ ap (λ n. get_or list n None) (move count c (cols + 2))
          ∙ ap (λ n. get_or list ((n + 1) * (cols + 2) + (c + 1)) None) (sym same)
      | inr other ↦
          let low : r < count = omega arith in
          get_or_append_left (inner_rows list cols count) _ None _
          (omega (arith, len, mul-add-lt r cols c count low inside))
          ∙ inner_rows_at list cols count (omega arith) r c low inside
    ] where
      move : (k c s : ℕ) → (k + 1) * s + 1 + c ≡ (k + 1) * s + (c + 1)
      move k c s = omega arith

source_is_end : (t : Terrain) (p : Place) → IsInBounds (whole t) p →
    IsRectangleSource t (whole t) p → IsEnd t p
source_is_end t p inside (inr sink) = inr sink
source_is_end t p inside (inl source) = inl (
  source.0,
  elim source.1 [ inl rim ↦ gap_at_end t.cols t.rows p (none_outside t) (at rim) | inr gap ↦ gap ],
) where
  at : IsOnRim (whole t) p → (p.row ≡ 0) ⊎ (p.row + 1 ≡ t.rows) ⊎ (p.col ≡ 0) ⊎ (p.col + 1 ≡ t.cols)
  at (inl e) = inl e
  at (inr (inl e)) = inr (inl (omega arith))
  at (inr (inr (inl e))) = inr (inr (inl e))
  at (inr (inr (inr e))) = inr (inr (inr (omega arith)))

data_in_rectangle : (t : Terrain) (p : Place) → IsDataCell t p → IsInBounds (whole t) p
data_in_rectangle t p some = let inside = data_inside t p some in
    (omega arith, omega (arith, inside), omega arith, omega (arith, inside))

whole_path : (t : Terrain) (p : Place) (rest : List Place) → IsPath t p rest →
    IsRectanglePath t (whole t) p rest
whole_path t p [] path = end_is_source t (whole t) p path
whole_path t p (q ∷ rest) path =
    (path.0, data_in_rectangle t q path.0.to_data, whole_path t q rest path.1)

back_path : (t : Terrain) (p : Place) (rest : List Place) → IsInBounds (whole t) p →
    IsRectanglePath t (whole t) p rest → IsPath t p rest
back_path t p [] inside path = source_is_end t p inside path
back_path t p (q ∷ rest) inside path = (path.0, back_path t q rest path.1 path.2)

whole_level : (t : Terrain) (p label : Place) (level : ℤ) → IsInBounds (whole t) p →
    IsRectangleLevel t (whole t) p level label → IsFilledHeight t p level
whole_level t p label level inside l = record {
  reached = (l.reached.0, back_path t p l.reached.0 inside l.reached.1, l.reached.2);
  least = λ rest path. l.least rest (whole_path t p rest path);
}

-- The levels of a flood of the whole terrain are its filled heights.
pub whole_filled : (t : Terrain) (n : Cells) (levels : List (Option ℤ)) (labels : List (Option ℕ)) →
    IsNetOf t (whole t) n → IsFlooded (IsCellJoin n) (source_of n) (length n.cells) levels labels →
    IsFilled t (inner_rows levels t.cols t.rows)
whole_filled t n levels labels net flooded =
    let size : length levels ≡ (t.rows + 2) * (t.cols + 2) = flooded.levels_size ∙ net.size in
    let long : (t.rows + 1) * (t.cols + 2) ≤ length levels = omega (arith, size) in
    record {
      size = length-inner_rows levels t.cols t.rows long ∙ omega arith;
      each = λ p inside.
          let in_rectangle : IsInBounds (whole t) p =
          (omega arith, omega (arith, inside), omega arith, omega (arith, inside)) in
          let entry : entry_at t.cols t.rows (inner_rows levels t.cols t.rows) p
          ≡ get_or levels (node_at (whole t) p) None =
          entry-inside t.cols t.rows (inner_rows levels t.cols t.rows) p inside.0 inside.1
          ∙ inner_rows_at levels t.cols t.rows long p.row p.col inside.0 inside.1
          ∙ ap (λ k. get_or levels k None) (shift p.row p.col (t.cols + 2)) in
          match_of (height_at t p) _ _
          (λ none. entry
          ∙ (rectangle_none t (whole t) n levels labels net flooded p in_rectangle none (omega (
            arith,
            net.size,
            mul-add-lt (p.row + 1) (t.cols + 2) (p.col + 1) (t.rows + 2) (omega (arith, inside))
                (omega (arith, inside)),
            sym (shift p.row p.col (t.cols + 2)),
          ))).0)
          (λ z some.
          let l =
          rectangle_level t (whole t) n levels labels net flooded p in_rectangle
          (ap is_some some) in
          (l.level, entry ∙ l.level_is, whole_level t p l.label l.level in_rectangle l.right));
    } where
      shift : (r c s : ℕ) → (r + 1) * s + (c + 1) ≡ (r - 0 + 1) * s + (c - 0 + 1)
      shift r c s = ap (λ n. (n + 1) * s + (c + 1)) (minus r)
          ∙ ap (λ n. (r - 0 + 1) * s + (n + 1)) (minus c) where
            minus : (n : ℕ) → n ≡ n - 0
            minus n = omega arith
