-- Defines the height at a place, and which cells are neighbours, edge cells and end cells.
-- Source: Jenson and Domingue (1988).
-- Trust base.
use Rattle.std.specs.Prelude.{◌≡◌, ◌≢◌, ℕ, ◌+◌, ◌*◌, ◌≤◌, ℤ, pos, Bool, List, Option, None, IsSome, IsNone, ◌&&◌, ◌==◌, if◌then◌else◌, slice_index_or, unwrap_or, ◌⊎◌, Contains}
use Rattle.terrain.specs.Raster.{Terrain, IsInGrid, is_in_grid}
use Rattle.terrain.specs.declared.place.Place.{Place}

-- The two places are equal.
abbrev pub is_place : Place → Place → Bool
is_place p q = p.row == q.row && p.col == q.col

-- The place is inside the terrain's grid.
abbrev pub IsInside : Terrain → Place → Type 0
IsInside t p = IsInGrid t.cols t.rows p

-- The index of place p in the row order of a grid with `cols` columns.
abbrev pub index_of : ℕ → Place → ℕ
index_of cols p = p.row * cols + p.col

-- The entry for place p in a list in row order; `none` outside the grid.
abbrev pub entry_or : {X : Type 0} → ℕ → ℕ → List X → X → Place → X
entry_or cols rows entries none p =
    if is_in_grid cols rows p then slice_index_or entries (index_of cols p) none else none

-- The entry for place p in a list in row order; `None` outside the grid.
abbrev pub entry_at : {X : Type 0} → ℕ → ℕ → List (Option X) → Place → Option X
entry_at cols rows entries p = entry_or cols rows entries None p

-- The height at a place; `None` outside the grid and where there is no data.
abbrev pub height_at : Terrain → Place → Option ℤ
height_at t p = entry_at t.cols t.rows t.cells p

-- The height of a data cell; 0 elsewhere.
abbrev pub height_of : Terrain → Place → ℤ
height_of t p = unwrap_or (height_at t p) (pos 0)

-- The place is in the grid and has a height.
abbrev pub IsDataCell : Terrain → Place → Type 0
IsDataCell t p = IsSome (height_at t p)

-- The rows of p and q differ by at most 1, and so do their columns.
pub record Touches (p q : Place) : Type 0 where
  pub row_down : q.row ≤ p.row + 1
  pub row_up : p.row ≤ q.row + 1
  pub col_right : q.col ≤ p.col + 1
  pub col_left : p.col ≤ q.col + 1

-- Two different data cells whose rows and columns each differ by at most 1.
pub record IsNeighbour (t : Terrain) (p q : Place) : Type 0 where
  pub different : p ≢ q
  pub touches : Touches p q
  pub from_data : IsDataCell t p
  pub to_data : IsDataCell t q

-- `is_gap` holds at place p or at one of the eight places around p, or p is in row 0 or column 0.
-- (Around a place in row 0 or column 0 some places are outside the grid.)
abbrev pub HasGapWhere : (Place → Type 0) → Place → Type 0
HasGapWhere is_gap p = (p.row ≡ 0) ⊎ (p.col ≡ 0) ⊎ ((q : Place) × Touches p q × is_gap q)

-- The place or one of the eight around it is outside the grid or has no data.
abbrev pub HasGapAround : Terrain → Place → Type 0
HasGapAround t p = HasGapWhere (λ q. IsNone (height_at t q)) p

-- A data cell with one of the eight places around it outside the grid or without data.
abbrev pub IsEdge : Terrain → Place → Type 0
IsEdge t p = IsDataCell t p × HasGapAround t p

-- A data cell that the caller named as a sink.
abbrev pub IsSink : Terrain → Place → Type 0
IsSink t p = IsDataCell t p × Contains t.sinks p

-- An edge cell or a named sink.
abbrev pub IsEnd : Terrain → Place → Type 0
IsEnd t p = IsEdge t p ⊎ IsSink t p
