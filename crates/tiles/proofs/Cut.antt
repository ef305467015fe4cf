-- A place is in a tile exactly if it lies in the tile's bounds. Each tile's bounds are in the grid.
use Rattle.std.proofs.Common.{◌≡◌, ◌↔◌, ℕ, ◌+◌, ◌-◌, ◌*◌, ◌/◌, ◌%◌, ◌<◌, min, sym, ap, subst, ◌∙◌, arith, mul_comm, true}
use Rattle.std.proofs.lemmas.Bool.{and_from, and_parts, le-leb, lt-ltb, leb-true, ltb-true}
use Rattle.std.proofs.lemmas.Nat.{div-mul-add, mod-mul-add, mul-add-lt, div_below, mod_below, div-add-mod'}
use Rattle.terrain.specs.declared.place.Place.{Place}
use Rattle.tiles.specs.declared.bounds.Bounds.{Bounds}
use Rattle.tiles.specs.Cutting.{Cutting, longest_side, IsCutting, IsWithin, IsInTile, IsInBounds, is_in_bounds, AreBounds, across, down, tile_count, tile_of_place, bounds_of}
use Rattle.tiles.proofs.Quotients.{piece_begins, piece_of, pieces_some, piece_is, piece_from}

abbrev pub make_bounds : ℕ → ℕ → ℕ → ℕ → Bounds
make_bounds top left rows cols = record { top = top; left = left; rows = rows; cols = cols }

pub tile_row : (t : Cutting) (tile : ℕ) → IsCutting t → tile < tile_count t →
    tile / across t < down t
tile_row t tile h l =
    div_below tile (across t) (down t) (pieces_some t.cols t.side h.some_side h.some_col)
    (omega (arith, mul_comm (across t) (down t)))

pub tile_col : (t : Cutting) (tile : ℕ) → IsCutting t → tile % across t < across t
tile_col t tile h = mod_below tile (across t) (pieces_some t.cols t.side h.some_side h.some_col)

pub tile_top : (t : Cutting) (tile : ℕ) → IsCutting t → tile < tile_count t →
    tile / across t * t.side < t.rows
tile_top t tile h l = piece_begins t.rows t.side (tile / across t) h.some_side (tile_row t tile h l)

pub tile_left : (t : Cutting) (tile : ℕ) → IsCutting t → tile % across t * t.side < t.cols
tile_left t tile h = piece_begins t.cols t.side (tile % across t) h.some_side (tile_col t tile h)

pub bounds_inside : (t : Cutting) (tile : ℕ) → IsCutting t → tile < tile_count t →
    AreBounds t (bounds_of t tile)
bounds_inside t tile h l =
    let a = tile_top t tile h l in
    let b = tile_left t tile h in
    let c = h.some_side in
    record {
      some_row = omega arith;
      some_col = omega arith;
      short_rows = omega arith;
      short_cols = omega arith;
      rows_inside = omega arith;
      cols_inside = omega arith;
    }

pub place_col_piece : (t : Cutting) (p : Place) → IsCutting t → IsWithin t p →
    p.col / t.side < across t
place_col_piece t p h w = piece_of t.cols t.side p.col h.some_side w.1

pub tile_of_place_row : (t : Cutting) (p : Place) → IsCutting t → IsWithin t p →
    tile_of_place t p / across t ≡ p.row / t.side
tile_of_place_row t p h w =
    div-mul-add (p.row / t.side) (across t) (p.col / t.side) (place_col_piece t p h w)

pub tile_of_place_col : (t : Cutting) (p : Place) → IsCutting t → IsWithin t p →
    tile_of_place t p % across t ≡ p.col / t.side
tile_of_place_col t p h w =
    mod-mul-add (p.row / t.side) (across t) (p.col / t.side) (place_col_piece t p h w)

pub tile_of_place_below : (t : Cutting) (p : Place) → IsCutting t → IsWithin t p →
    tile_of_place t p < tile_count t
tile_of_place_below t p h w =
    mul-add-lt (p.row / t.side) (across t) (p.col / t.side) (down t)
    (piece_of t.rows t.side p.row h.some_side w.0)
    (place_col_piece t p h w)

pub in_bounds : (t : Cutting) (tile : ℕ) (p : Place) → IsCutting t → IsInTile t tile p →
    IsInBounds (bounds_of t tile) p
in_bounds t tile p h i =
    let r : tile / across t ≡ p.row / t.side = ap (λ n. n / across t) (sym i.1)
    ∙ tile_of_place_row t p h i.0 in
    let c : tile % across t ≡ p.col / t.side = ap (λ n. n % across t) (sym i.1)
    ∙ tile_of_place_col t p h i.0 in
    let top : tile / across t * t.side ≡ p.row / t.side * t.side = ap (λ n. n * t.side) r in
    let left : tile % across t * t.side ≡ p.col / t.side * t.side = ap (λ n. n * t.side) c in
    let a = piece_from t.side p.row h.some_side in
    let b = piece_from t.side p.col h.some_side in
    let w = i.0 in
    (omega arith, omega arith, omega arith, omega arith)

pub in_tile : (t : Cutting) (tile : ℕ) (p : Place) → IsCutting t → tile < tile_count t →
    IsInBounds (bounds_of t tile) p → IsInTile t tile p
in_tile t tile p h l i =
    let a = tile_top t tile h l in
    let b = tile_left t tile h in
    let r : p.row / t.side ≡ tile / across t =
    piece_is t.side (tile / across t) p.row (omega arith) (omega arith) in
    let c : p.col / t.side ≡ tile % across t =
    piece_is t.side (tile % across t) p.col (omega arith) (omega arith) in
    let e : tile_of_place t p ≡ tile / across t * across t + tile % across t =
    ap (λ n. n * across t + p.col / t.side) r ∙ ap (λ n. tile / across t * across t + n) c in
    ((omega arith, omega arith), e ∙ div-add-mod' tile (across t))

pub inside_from_value : (t : Cutting) (tile : ℕ) (b : Bounds) → IsCutting t → tile < tile_count t →
    b ≡ bounds_of t tile → AreBounds t b
inside_from_value t tile b h l e =
    subst (λ (z : Bounds). AreBounds t z) (sym e) (bounds_inside t tile h l)

pub places_from_value : (t : Cutting) (tile : ℕ) (b : Bounds) → IsCutting t → tile < tile_count t →
    b ≡ bounds_of t tile → (p : Place) → IsInTile t tile p ↔ IsInBounds b p
places_from_value t tile b h l e p = (
  λ i. subst (λ (z : Bounds). IsInBounds z p) (sym e) (in_bounds t tile p h i),
  λ i. in_tile t tile p h l (subst (λ (z : Bounds). IsInBounds z p) e i),
)

-- the bounds that `Tiling::bounds` computes are the tile's
pub bounds_from : (t : Cutting) (tile a n m : ℕ) → a ≡ across t →
    n ≡ min t.side (t.rows - tile / a * t.side) → m ≡ min t.side (t.cols - tile % a * t.side) →
    make_bounds (tile / a * t.side) (tile % a * t.side) n m ≡ bounds_of t tile
bounds_from t tile a n m e f g =
    ap (λ i. make_bounds (tile / a * t.side) (tile % a * t.side) i m) f
    ∙ ap (λ i. make_bounds (tile / a * t.side) (tile % a * t.side)
    (min t.side (t.rows - tile / a * t.side)) i) g
    ∙ ap (λ i. make_bounds (tile / i * t.side) (tile % i * t.side)
    (min t.side (t.rows - tile / i * t.side)) (min t.side (t.cols - tile % i * t.side))) e

pub in_bounds_parts : (b : Bounds) (p : Place) → is_in_bounds b p ≡ true → IsInBounds b p
in_bounds_parts b p e =
    let a = and_parts _ _ e in
    let d = and_parts _ _ a.0 in
    let f = and_parts _ _ d.0 in
    (leb-true _ _ f.0, ltb-true _ _ f.1, leb-true _ _ d.1, ltb-true _ _ a.1)

pub in_bounds_from : (b : Bounds) (p : Place) → IsInBounds b p → is_in_bounds b p ≡ true
in_bounds_from b p h = and_from _ _ (and_from _ _ (and_from _ _ (le-leb _ _ h.0) (lt-ltb _ _ h.1))
    (le-leb _ _ h.2)) (lt-ltb _ _ h.3)

abbrev pub one_tile : ℕ → ℕ → Cutting
one_tile cols rows = record { cols = cols; rows = rows; side = longest_side }
