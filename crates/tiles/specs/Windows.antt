-- Defines the window of a tile: the tile and a border of one cell around it. A spot is a place in
-- the window, whose row 0 and column 0 lie before the tile's first. Also the value at a spot: that
-- of the place that it shows (`IsShown`), in `IsSeen` only if the place is in the bounds `seen`. It
-- is `none` elsewhere, as at spots north or west of the grid.
-- Public.
use Rattle.std.specs.Prelude.{◌≡◌, ℕ, ◌+◌, ◌*◌, ◌<◌, ◌≤◌, ◌⊎◌, List, length, if◌then◌else◌, slice_index_or}
use Rattle.terrain.specs.Neighbours.{index_of}
use Rattle.terrain.specs.declared.place.Place.{Place}
use Rattle.tiles.specs.declared.bounds.Bounds.{Bounds}
use Rattle.tiles.specs.Cutting.{Cutting, View, is_in_bounds}

-- The number of spots.
abbrev pub area_of : Bounds → ℕ
area_of b = (b.cols + 2) * (b.rows + 2)

-- The row-order index of a spot.
abbrev pub spot_index : Bounds → Place → ℕ
spot_index b s = index_of (b.cols + 2) s

-- The spot lies in the window.
abbrev pub IsSpot : Bounds → Place → Type 0
IsSpot b s = (s.row < b.rows + 2) × (s.col < b.cols + 2)

-- The spot lies in the tile itself.
pub record IsInner (b : Bounds) (s : Place) : Type 0 where
  pub first_row : 1 ≤ s.row
  pub last_row : s.row ≤ b.rows
  pub first_col : 1 ≤ s.col
  pub last_col : s.col ≤ b.cols

-- The spot of the window shows the place p, which may lie south or east of the grid.
abbrev pub Shows : Bounds → Place → Place → Type 0
Shows b s p = (b.top + s.row ≡ p.row + 1) × (b.left + s.col ≡ p.col + 1)

-- The spot lies north or west of the grid.
abbrev pub IsOff : Bounds → Place → Type 0
IsOff b s = (b.top + s.row ≡ 0) ⊎ (b.left + s.col ≡ 0)

-- x is the value at spot s: `at p` for the place p that s shows, `none` for a spot north or west of
-- the grid.
abbrev pub IsShown : {X : Type 0} → (Place → X) → X → Bounds → Place → X → Type 0
IsShown at none b s x = ((p : Place) → Shows b s p → x ≡ at p) × (IsOff b s → x ≡ none)

-- The list `shown` has for each spot, in row order, the value `at p` for the place p that it shows,
-- `none` for a spot north or west of the grid.
abbrev pub AreShown : {X : Type 0} → (Place → X) → X → Bounds → List X → Type 0
AreShown at none b shown =
    (s : Place) → IsSpot b s → IsShown at none b s (slice_index_or shown (spot_index b s) none)

-- The entry for place p in a list in row order; `none` outside the bounds.
abbrev pub entry_inside : {X : Type 0} → Bounds → ℕ → List X → X → Place → X
entry_inside b cols entries none p =
    if is_in_bounds b p then slice_index_or entries (index_of cols p) none else none

-- The list has, for each spot of index below `end`, an element for which `Has` holds, and no more.
pub record AreMadeSpots {X : Type 0} (Has : Place → X → Type 0) (b : Bounds) (end : ℕ) (lack : X)
    (list : List X) : Type 0 where
  pub size : length list ≡ end
  pub each : (s : Place) → IsSpot b s → spot_index b s < end →
      Has s (slice_index_or list (spot_index b s) lack)

-- x is the value of the view's grid at spot s; `none` where the spot's place is not in `seen`.
abbrev pub IsSeen : {X : Type 0} → View X → Bounds → X → Bounds → Place → X → Type 0
IsSeen v seen none b s x =
    IsShown (entry_inside seen v.cutting.cols v.cells none) none b s x

-- The list has, in row order, the values seen at the spots of index below `end`, and no more.
abbrev pub AreSeenBelow : {X : Type 0} → View X → Bounds → X → Bounds → ℕ → List X → Type 0
AreSeenBelow v seen none b end list = AreMadeSpots (IsSeen v seen none b) b end none list

-- The bounds `seen` lie in the grid and hold the bounds b.
pub record IsHeld (c : Cutting) (b seen : Bounds) : Type 0 where
  pub first_row : seen.top ≤ b.top
  pub last_row : b.top + b.rows ≤ seen.top + seen.rows
  pub first_col : seen.left ≤ b.left
  pub last_col : b.left + b.cols ≤ seen.left + seen.cols
  pub rows_inside : seen.top + seen.rows ≤ c.rows
  pub cols_inside : seen.left + seen.cols ≤ c.cols
