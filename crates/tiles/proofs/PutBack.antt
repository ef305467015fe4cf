-- The tiles' lists, merged row by row and each row tile by tile, make the list of the grid.
use Rattle.std.proofs.Common.{◌≡◌, ℕ, ◌+◌, ◌-◌, ◌*◌, ◌/◌, ◌%◌, ◌<◌, ◌≤◌, min, List, ◌++◌, length, drop, Option, Some, None, sym, ap, subst, refl, ◌∙◌, arith, inl, inr, slice_get, slice_range, Vec}
use Rattle.std.specs.declared.alloc.Global.{Global}
use Rattle.std.specs.Prelude.{option_and_then}
use Rattle.std.proofs.lemmas.Bool.{cases_lt}
use Rattle.std.proofs.lemmas.Grind.{div_ceil_times}
use Rattle.std.proofs.lemmas.List.{length-take, length-drop, length-append}
use Rattle.std.proofs.lemmas.Nat.{div-mul-add, mod-mul-add, row_fits, mul-add-lt}
use Rattle.std.proofs.lemmas.Option.{unwrap_or-slice_get}
use Rattle.std.specs.Option.{unwrap_or}
use Rattle.terrain.specs.Neighbours.{index_of, entry_at}
use Rattle.terrain.proofs.Places.{entry-inside}
use Rattle.terrain.specs.declared.place.Place.{Place}
use Rattle.tiles.specs.declared.bounds.Bounds.{Bounds}
use Rattle.tiles.specs.Cutting.{Cutting, IsCutting, IsWithin, IsInBounds, AreTileLists, IsPutBack, across, down, tile_count, tile_of_place, bounds_of, listed_at, IsInTile, tile_entry, index_in}
use Rattle.tiles.specs.PuttingBack.{IsPutBackBelow, IsRowOf}
use Rattle.tiles.proofs.Quotients.{piece_begins, piece_of, piece_is, piece_from}
use Rattle.tiles.proofs.Cut.{in_tile}
use Rattle.tiles.proofs.TileOrder.{tile_entry-in}
use Rattle.tiles.proofs.SliceGet.{slice_get-range, slice_get-append_left, slice_get-append_right}

-- each row of a tile ends within the tile's list
pub row_in_list : (b : Bounds) (row n : ℕ) → n ≡ b.rows * b.cols → b.top ≤ row →
    row < b.top + b.rows → (row - b.top) * b.cols + b.cols ≤ n
row_in_list b row n e h l = let f =
    row_fits (row - b.top) b.cols b.rows b.cols (omega arith) (omega arith) in omega (arith, f, e)

-- a place's entry is in its tile's list, at the place's index in the tile
pub listed_in : {X : Type 0} (t : Cutting) (lists : List (Vec X Global)) (tile : ℕ) (list :
    Vec X Global) (p : Place) → tile_of_place t p ≡ tile → slice_get lists tile ≡ Some list →
    listed_at t lists p ≡ slice_get list.items ((p.row - (bounds_of t tile).top)
    * (bounds_of t tile).cols + (p.col - (bounds_of t tile).left))
listed_in {X} t lists tile list p e s =
    let at : ℕ → Vec X Global → Option X = λ i l. slice_get l.items ((p.row - (bounds_of t i).top)
    * (bounds_of t i).cols + (p.col - (bounds_of t i).left)) in
    ap (λ i. option_and_then (at i) (slice_get lists i)) e ∙ ap (λ o. option_and_then (at tile) o) s

pub row_is : {X : Type 0} (t : Cutting) (lists : List (Vec X Global)) (tile row : ℕ)
    (list : Vec X Global) (part : List X) (from : ℕ) → IsCutting t → tile < tile_count t →
    AreTileLists t lists → slice_get lists tile ≡ Some list →
    (bounds_of t tile).top ≤ row → row < (bounds_of t tile).top + (bounds_of t tile).rows →
    from ≡ (row - (bounds_of t tile).top) * (bounds_of t tile).cols →
    part ≡ slice_range list.items from (from + (bounds_of t tile).cols) →
    IsRowOf t lists tile row part
row_is t lists tile row list part from h l a s top bottom e f =
    let b = bounds_of t tile in
    let long = row_in_list b row (length list.items) (a.each tile list s) top bottom in
    record {
      size = ap length f ∙ length-take (from + b.cols - from) (drop from list.items) ∙ ap (λ n.
          min (from + b.cols - from) n) (length-drop from list.items) ∙ omega (arith, long, e);
      each = λ p w r left right.
          let bounds : IsInBounds b p =
          (omega (arith, top, r), omega (arith, bottom, r), left, right) in
          let i = in_tile t tile p h l bounds in
          let at : index_in b p ≡ from + (p.col - b.left) =
          ap (λ n. (n - b.top) * b.cols + (p.col - b.left)) r
          ∙ ap (λ n. n + (p.col - b.left)) (sym e) in
          ap (λ xs. slice_get xs (p.col - b.left)) f
          ∙ slice_get-range list.items from (from + b.cols) (p.col - b.left) (from
          + (p.col - b.left)) (omega (arith, left, right)) refl
          ∙ ap (λ n. slice_get list.items n) (sym at)
          ∙ sym (listed_in t lists tile list p i.1 s);
    }

-- there is a tile where a row of the grid meets a column of tiles
pub crossed_below : (t : Cutting) (row column : ℕ) → IsCutting t → row < t.rows →
    column < across t → row / t.side * across t + column < tile_count t
crossed_below t row column h r c = mul-add-lt (row / t.side) (across t) column (down t)
    (piece_of t.rows t.side row h.some_side r) c

-- the tile where a row meets a column of tiles has that row, and the column's left edge and width
pub crossed_at : (t : Cutting) (row column : ℕ) → IsCutting t → row < t.rows → column < across t →
    let b = bounds_of t (row / t.side * across t + column) in (b.top ≤ row) × (row < b.top + b.rows)
    × (b.left ≡ column * t.side) × (b.cols ≡ min t.side (t.cols - column * t.side))
crossed_at t row column h r c =
    let e = div-mul-add (row / t.side) (across t) column c in
    let f = mod-mul-add (row / t.side) (across t) column c in
    let a = piece_from t.side row h.some_side in
    let top : (row / t.side * across t + column) / across t * t.side ≡ row / t.side * t.side =
    ap (λ n. n * t.side) e in
    let left : (row / t.side * across t + column) % across t * t.side ≡ column * t.side =
    ap (λ n. n * t.side) f in (
      omega (arith, top, a.0),
      omega (arith, top, a.0, a.1),
      left,
      ap (λ n. min t.side (t.cols - n)) left,
    )

-- the number of cells before `row`, plus the number of cells of `row` in the first `column` tiles
-- that `row` crosses
abbrev pub crossed_length : Cutting → ℕ → ℕ → ℕ
crossed_length t row column = row * t.cols + min t.cols (column * t.side)

pub crossed_more : (t : Cutting) (row column : ℕ) → IsCutting t →
    column < across t → crossed_length t row (column + 1) ≡ row * t.cols + column * t.side
    + min t.side (t.cols - column * t.side)
crossed_more t row column h c =
    let a = piece_begins t.cols t.side column h.some_side c in omega arith

pub crossed_all : (t : Cutting) (row : ℕ) → IsCutting t →
    crossed_length t row (across t) ≡ (row + 1) * t.cols
crossed_all t row h =
    let a = (div_ceil_times t.cols t.side h.some_side).0 in omega (arith, a)

-- `whole` has the entries for the grid's first n places, and `part` those for the next `width`
-- places, all in one row. Then `whole ++ part` has the entries for the first n + width places.
pub IsPutBackBelow-more : {X : Type 0} (t : Cutting) (lists : List (Vec X Global))
    (row left width n : ℕ) (whole part : List X) → left + width ≤ t.cols → n ≡ row * t.cols + left →
    IsPutBackBelow t lists n whole → length part ≡ width →
    ((p : Place) → IsWithin t p → p.row ≡ row → left ≤ p.col → p.col < left + width → slice_get part
    (p.col - left) ≡ listed_at t lists p) → IsPutBackBelow t lists (n + width) (whole ++ part)
IsPutBackBelow-more t lists row left width n whole part fits e h size each = record {
  size = length-append whole part ∙ omega (arith, h.size, size);
  each = λ p w below.
      let long = h.size in
      elim (cases_lt (index_of t.cols p) n) [
        | inl l ↦ slice_get-append_left whole part (index_of t.cols p) (omega (arith, l, long))
            ∙ h.each p w l
        | inr g ↦
            let c = w.1 in
            let in_row : p.row ≡ row =
            sym (div-mul-add p.row t.cols p.col c) ∙ piece_is t.cols row (index_of t.cols p)
            (omega (arith, g, e)) (omega (arith, below, e, fits)) in
            let same : p.row * t.cols ≡ row * t.cols = ap (λ i. i * t.cols) in_row in
            slice_get-append_right whole part (index_of t.cols p) (p.col - left)
            (omega (arith, long, g, e, same))
            ∙ each p w in_row (omega (arith, g, e, same)) (omega (arith, below, e, same))
      ];
}

-- `whole` has the entries for the rows before `row` and for `row` in its first `column` tiles. If
-- `part` has the entries for `row` in the next tile, then `whole ++ part` has both.
pub crosses_more : {X : Type 0} (t : Cutting) (lists : List (Vec X Global)) (row column first : ℕ)
    (whole part next : List X) → IsCutting t → row < t.rows → column < across t →
    first ≡ row / t.side * across t → next ≡ whole ++ part → IsPutBackBelow t lists
    (crossed_length t row column) whole → IsRowOf t lists (first + column) row part →
    IsPutBackBelow t lists (crossed_length t row (column + 1)) next
crosses_more t lists row column first whole part next h r c e f k is =
    let i : IsRowOf t lists (row / t.side * across t + column) row part =
    subst (λ n. IsRowOf t lists (n + column) row part) e is in
    let at = crossed_at t row column h r c in
    let begins = piece_begins t.cols t.side column h.some_side c in
    let left = at.2 in
    let width = at.3 in
    let n : crossed_length t row column ≡ row * t.cols + column * t.side = omega (arith, begins) in
    let more : crossed_length t row column + min t.side (t.cols - column * t.side)
    ≡ crossed_length t row (column + 1) = omega (arith, n, crossed_more t row column h c) in
    subst (λ xs. IsPutBackBelow t lists (crossed_length t row (column + 1)) xs) (sym f)
    (subst (λ m. IsPutBackBelow t lists m (whole ++ part)) more
    (IsPutBackBelow-more t lists row (column * t.side) (min t.side (t.cols - column * t.side))
    (crossed_length t row column) whole part (omega (arith, begins)) n k (i.size ∙ width)
    (λ p w q a b. ap (λ m. slice_get part (p.col - m)) (sym left)
    ∙ i.each p w q (omega (arith, left, a)) (omega (arith, left, width, b)))))

pub IsPutBack-from_below : {X : Type 0} (t : Cutting) (lists : List (Vec X Global))
    (whole : List X) → IsPutBackBelow t lists (t.rows * t.cols) whole → IsPutBack t lists whole
IsPutBack-from_below t lists whole h = record {
  size = h.size ∙ omega arith;
  each = λ p w. h.each p w (omega (arith, mul-add-lt p.row t.cols p.col t.rows w.0 w.1));
}

pub entry_at-put_back : {X : Type 0} (t : Cutting) (lists : List (Vec (Option X) Global))
    (whole : List (Option X)) (tile : ℕ) (list : Vec (Option X) Global) (p : Place) →
    IsPutBack t lists whole → IsInTile t tile p → slice_get lists tile ≡ Some list →
    entry_at t.cols t.rows whole p ≡ tile_entry t tile list.items p
entry_at-put_back {X} t lists whole tile list p h i s =
    entry-inside t.cols t.rows whole p i.0.0 i.0.1
    ∙ sym (unwrap_or-slice_get whole (index_of t.cols p) None)
    ∙ ap (λ (o : Option (Option X)). unwrap_or o None) (h.each p i.0
    ∙ listed_in t lists tile list p i.1 s)
    ∙ unwrap_or-slice_get list.items (index_in (bounds_of t tile) p) None
    ∙ sym (tile_entry-in t tile list.items p i)
