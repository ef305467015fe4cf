-- The spots around a spot of a tile show the places around the place that the spot shows. So a
-- window has, at the indexes around the spot, the entries on the eight ways from that place; `None`
-- off the grid. Spots are the places of a tile's window (`Windows`).
use Rattle.std.proofs.Common.{◌≡◌, ℕ, zero, suc, ◌+◌, ◌-◌, ◌*◌, ◌<◌, ◌≤◌, inl, inr, List, get_or, Option, None, Some, ap, subst, sym, refl, ◌∙◌, arith}
use Rattle.std.proofs.Math.Nat.{suc-mul, mul-le-mul_right}
use Rattle.std.specs.Option.{option_and_then}
use Rattle.terrain.proofs.Places.{make_place}
use Rattle.terrain.proofs.EightWays.{eight}
use Rattle.terrain.specs.Neighbours.{entry_or, entry_at}
use Rattle.terrain.specs.Ways.{before, place_if_both, place_on, entry_on, around_index}
use Rattle.terrain.specs.declared.place.Place.{Place}
use Rattle.tiles.specs.declared.bounds.Bounds.{Bounds}
use Rattle.tiles.specs.Windows.{IsInner, spot_index, area_of, IsSpot, Shows, IsShown, AreShown}
use Rattle.tiles.proofs.Spots.{spot_below}

-- Row or column `at` of the window of a tile that begins at `first` of the grid shows this row or
-- column, or lies before the grid's first. The window begins one row or column before its tile.
abbrev ShowsAxis : ℕ → ℕ → Option ℕ → Type 0
ShowsAxis first at None = first + at ≡ 0
ShowsAxis first at (Some shown) = first + at ≡ shown + 1

before_shown : (first at shown : ℕ) → 1 ≤ at → first + at ≡ shown + 1 →
    ShowsAxis first (at - 1) (before shown)
before_shown first at zero some e = omega (arith, some, e)
before_shown first at (suc n) some e = omega (arith, some, e)

entry_shown : {X : Type 0} (at : Place → Option X) (b : Bounds) (q : Place) (row col : Option ℕ)
    (x : Option X) → ShowsAxis b.top q.row row → ShowsAxis b.left q.col col →
    IsShown at None b q x → x ≡ option_and_then at (place_if_both row col)
entry_shown at b q (Some r) (Some c) x down right shown = shown.0 (make_place r c) (down, right)
entry_shown at b q (Some r) None x down right shown = shown.1 (inr right)
entry_shown at b q None col x down right shown = shown.1 (inl down)

-- q is the spot on a way from spot s, which shows place p.
record IsSpotOn (b : Bounds) (s p : Place) (way : ℕ) (q : Place) : Type 0 where
  spot : IsSpot b q
  index : get_or (around_index (b.cols + 2) (spot_index b s)) way 0 ≡ spot_index b q
  axes : (row col : Option ℕ) × (place_on way p ≡ place_if_both row col)
      × ShowsAxis b.top q.row row × ShowsAxis b.left q.col col

module _ (b : Bounds) (s p : Place) (inner : IsInner b s) (shows : Shows b s p) where
  spot_on : (row col : ℕ) (way : ℕ) (down right : Option ℕ) → row < b.rows + 2 → col < b.cols + 2 →
      get_or (around_index (b.cols + 2) (spot_index b s)) way 0 ≡ row * (b.cols + 2) + col →
      place_on way p ≡ place_if_both down right → ShowsAxis b.top row down →
      ShowsAxis b.left col right → (q : Place) × IsSpotOn b s p way q
  spot_on row col way down right in_row in_col index on at_row at_col = (
    make_place row col,
    record {
      spot = (in_row, in_col);
      index = index;
      axes = (down, right, on, at_row, at_col);
    },
  )

  north : ShowsAxis b.top (s.row - 1) (before p.row)
  north = before_shown b.top s.row p.row inner.first_row shows.0

  west : ShowsAxis b.left (s.col - 1) (before p.col)
  west = before_shown b.left s.col p.col inner.first_col shows.1

  south : ShowsAxis b.top (s.row + 1) (Some (p.row + 1))
  south = omega (arith, shows.0)

  east : ShowsAxis b.left (s.col + 1) (Some (p.col + 1))
  east = omega (arith, shows.1)

  row_after : (s.row + 1) * (b.cols + 2) ≡ s.row * (b.cols + 2) + (b.cols + 2)
  row_after = ap (λ (n : ℕ). n * (b.cols + 2)) (omega arith) ∙ suc-mul s.row (b.cols + 2)

  own_row : s.row * (b.cols + 2) ≡ (s.row - 1) * (b.cols + 2) + (b.cols + 2)
  own_row = ap (λ (n : ℕ). n * (b.cols + 2)) (omega (arith, inner.first_row))
      ∙ suc-mul (s.row - 1) (b.cols + 2)

  row_in : s.row < b.rows + 2
  row_in = omega (arith, inner.last_row)

  below_in : s.row + 1 < b.rows + 2
  below_in = omega (arith, inner.last_row)

  above_in : s.row - 1 < b.rows + 2
  above_in = omega (arith, inner.last_row)

  col_in : s.col < b.cols + 2
  col_in = omega (arith, inner.last_col)

  right_in : s.col + 1 < b.cols + 2
  right_in = omega (arith, inner.last_col)

  left_in : s.col - 1 < b.cols + 2
  left_in = omega (arith, inner.last_col)

  spots_on : (way : ℕ) → way < 8 → (q : Place) × IsSpotOn b s p way q
  spots_on = eight (λ way. (q : Place) × IsSpotOn b s p way q)
      (spot_on s.row (s.col + 1) 0 (Some p.row) (Some (p.col + 1)) row_in right_in
      (omega arith) refl shows.0 east)
      (spot_on (s.row + 1) (s.col + 1) 1 (Some (p.row + 1)) (Some (p.col + 1)) below_in right_in
      (omega (arith, row_after)) refl south east)
      (spot_on (s.row + 1) s.col 2 (Some (p.row + 1)) (Some p.col) below_in col_in
      (omega (arith, row_after)) refl south shows.1)
      (spot_on (s.row + 1) (s.col - 1) 3 (Some (p.row + 1)) (before p.col) below_in left_in
      (omega (arith, row_after, inner.first_col)) refl south west)
      (spot_on s.row (s.col - 1) 4 (Some p.row) (before p.col) row_in left_in
      (omega (arith, inner.first_col)) refl shows.0 west)
      (spot_on (s.row - 1) (s.col - 1) 5 (before p.row) (before p.col) above_in left_in
      (omega (arith, own_row, inner.first_col)) refl north west)
      (spot_on (s.row - 1) s.col 6 (before p.row) (Some p.col) above_in col_in
      (omega (arith, own_row)) refl north shows.1)
      (spot_on (s.row - 1) (s.col + 1) 7 (before p.row) (Some (p.col + 1)) above_in right_in
      (omega (arith, own_row)) refl north east)

  -- the value at the index on a way from the spot is the entry on that way from the place
  pub value_on_way : {X : Type 0} (cols rows : ℕ) (entries values : List (Option X)) (at : List ℕ) →
      AreShown (entry_or cols rows entries None) None b values →
      at ≡ around_index (b.cols + 2) (spot_index b s) → (way : ℕ) → way < 8 →
      get_or values (get_or at way 0) None ≡ entry_on cols rows entries way p
  value_on_way {X = X} cols rows entries values at all is way below =
      let q = spots_on way below in
      let axes = q.1.axes in
      let entry : Place → Option X = λ r. entry_at cols rows entries r in
      ap (λ (l : List ℕ). get_or values (get_or l way 0) None) is
      ∙ ap (λ (n : ℕ). get_or values n None) q.1.index
      ∙ entry_shown entry b q.0 axes.0 axes.1 (get_or values (spot_index b q.0) None)
      axes.3 axes.4 (all q.0 q.1.spot)
      ∙ ap (λ (o : Option Place). option_and_then entry o) (sym axes.2)

-- a spot of the tile shows a place
pub inner_shows : (b : Bounds) (s : Place) → IsInner b s → (p : Place) × Shows b s p
inner_shows b s inner = (
  make_place (b.top + s.row - 1) (b.left + s.col - 1),
  (omega (arith, inner.first_row), omega (arith, inner.first_col)),
)

pub around_below : (b : Bounds) (s : Place) → IsInner b s → (way : ℕ) → way < 8 →
    get_or (around_index (b.cols + 2) (spot_index b s)) way 0 < area_of b
around_below b s inner way below =
    let p = inner_shows b s inner in
    let q = spots_on b s p.0 inner p.1 way below in
    subst (λ (n : ℕ). n < area_of b) (sym q.1.index) (spot_below b q.0 q.1.spot)

-- a row of spots lies before a spot of the tile
pub index_after_row : (b : Bounds) (s : Place) → IsInner b s → b.cols + 2 < spot_index b s
index_after_row b s inner =
    let up : 1 * (b.cols + 2) ≤ s.row * (b.cols + 2) =
    mul-le-mul_right (b.cols + 2) inner.first_row in
    omega (arith, up, inner.first_col)
