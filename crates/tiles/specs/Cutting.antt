-- Defines how a grid is cut into square tiles, numbered in row order. A view shows a tile and the
-- cells next to it. A tile's list has an entry for each of the tile's cells, in row order.
-- Source: the tiles of a TIFF file (TIFF 6.0, section 15), left to right and top to bottom.
-- Unlike in TIFF, tiles in the last row or column of tiles are smaller if the side does not divide
-- the number of the grid's rows or columns.
-- Trust base.
use Rattle.std.specs.Prelude.{◌≡◌, ℕ, ℤ, slice_index_or, ◌+◌, ◌-◌, ◌*◌, ◌/◌, ◌%◌, ◌<◌, ◌≤◌, min, Bool, ◌&&◌, ◌||◌, not, ◌==◌, nat_lt, nat_le, if◌then◌else◌, List, [], map, filter, length, Option, None, slice_get, slice_range, Some, Vec, option_and_then}
use Rattle.std.specs.declared.alloc.Global.{Global}
use Rattle.std.specs.Int.{div_ceil}
use Rattle.std.specs.List.{range_with_len, flat_map}
use Rattle.terrain.specs.Neighbours.{index_of}
use Rattle.terrain.specs.Raster.{Terrain, IsInGrid, is_in_grid}
use Rattle.terrain.specs.Ways.{places_around}
use Rattle.terrain.specs.declared.place.Place.{Place}
use Rattle.tiles.specs.declared.bounds.Bounds.{Bounds}

-- The greatest numbers of columns or rows of a grid, of cells along a tile's side, and of tiles.
abbrev pub longest_axis : ℕ
longest_axis = 4096

abbrev pub longest_side : ℕ
longest_side = 4096

abbrev pub most_tiles : ℕ
most_tiles = 65536

-- A cutting: the numbers of columns and rows of a grid, and of cells along a tile's side.
pub record Cutting : Type 0 where
  pub cols : ℕ
  pub rows : ℕ
  pub side : ℕ

-- How many tiles there are in a row of tiles, in a column of tiles, and in all.
abbrev pub across : Cutting → ℕ
across t = div_ceil t.cols t.side

abbrev pub down : Cutting → ℕ
down t = div_ceil t.rows t.side

abbrev pub tile_count : Cutting → ℕ
tile_count t = across t * down t

-- A cutting within the limits.
pub record IsCutting (t : Cutting) : Type 0 where
  pub some_col : 1 ≤ t.cols
  pub some_row : 1 ≤ t.rows
  pub few_cols : t.cols ≤ longest_axis
  pub few_rows : t.rows ≤ longest_axis
  pub some_side : 1 ≤ t.side
  pub short_side : t.side ≤ longest_side
  pub few_tiles : tile_count t ≤ most_tiles

-- The place is inside the grid.
abbrev pub is_within : Cutting → Place → Bool
is_within t p = is_in_grid t.cols t.rows p

abbrev pub IsWithin : Cutting → Place → Type 0
IsWithin t p = IsInGrid t.cols t.rows p

-- The number of the tile that a place lies in.
abbrev pub tile_of_place : Cutting → Place → ℕ
tile_of_place t p = p.row / t.side * across t + p.col / t.side

-- The place lies in the tile.
abbrev pub IsInTile : Cutting → ℕ → Place → Type 0
IsInTile t tile p = IsWithin t p × (tile_of_place t p ≡ tile)

-- The first row and column of a tile, and its size.
abbrev pub bounds_of : Cutting → ℕ → Bounds
bounds_of t tile =
    let top = tile / across t * t.side in
    let left = tile % across t * t.side in
    record {
      top = top;
      left = left;
      rows = min t.side (t.rows - top);
      cols = min t.side (t.cols - left);
    }

-- The number of cells of a tile.
abbrev pub cell_count : Cutting → ℕ → ℕ
cell_count t tile = (bounds_of t tile).rows * (bounds_of t tile).cols

-- The place lies in the bounds.
abbrev pub IsInBounds : Bounds → Place → Type 0
IsInBounds b p =
    (b.top ≤ p.row) × (p.row < b.top + b.rows) × (b.left ≤ p.col) × (p.col < b.left + b.cols)

abbrev pub is_in_bounds : Bounds → Place → Bool
is_in_bounds b p = nat_le b.top p.row && nat_lt p.row (b.top + b.rows) && nat_le b.left p.col
    && nat_lt p.col (b.left + b.cols)

-- The bounds lie within a grid of the greatest size.
abbrev pub IsWithinLimits : Bounds → Type 0
IsWithinLimits b = (b.top + b.rows ≤ longest_axis) × (b.left + b.cols ≤ longest_axis)

-- The bounds have a cell, lie in the grid, and have at most `side` rows and `side` columns.
pub record AreBounds (t : Cutting) (b : Bounds) : Type 0 where
  pub some_row : 1 ≤ b.rows
  pub some_col : 1 ≤ b.cols
  pub short_rows : b.rows ≤ t.side
  pub short_cols : b.cols ≤ t.side
  pub rows_inside : b.top + b.rows ≤ t.rows
  pub cols_inside : b.left + b.cols ≤ t.cols

-- For a place in the bounds: it lies in their first or last row or column.
abbrev pub is_first_or_last : Bounds → Place → Bool
is_first_or_last b p = p.row == b.top || p.row + 1 == b.top + b.rows || p.col == b.left
    || p.col + 1 == b.left + b.cols

-- The place lies in the first or last row or column of its tile.
abbrev pub is_on_rim : Cutting → Place → Bool
is_on_rim t p = is_first_or_last (bounds_of t (tile_of_place t p)) p

-- The places in bounds, in row order.
abbrev pub places_in : Bounds → List Place
places_in b = flat_map (λ r. map (λ c. record { row = r; col = c }) (range_with_len b.left b.cols))
    (range_with_len b.top b.rows)

-- The index of a place in the row order of bounds, and the place at an index.
abbrev pub index_in : Bounds → Place → ℕ
index_in b p = (p.row - b.top) * b.cols + (p.col - b.left)

abbrev pub place_in : Bounds → ℕ → Place
place_in b i = record { row = b.top + i / b.cols; col = b.left + i % b.cols }

-- The entry for place p in a list in the row order of bounds b; `None` outside the bounds.
abbrev pub entry_in : {X : Type 0} → Bounds → List (Option X) → Place → Option X
entry_in b entries p = if is_in_bounds b p then slice_index_or entries (index_in b p) None else None

-- The places of a tile's rim, in row order.
abbrev pub rim_places : Cutting → ℕ → List Place
rim_places t tile = filter (is_first_or_last (bounds_of t tile)) (places_in (bounds_of t tile))

-- The place is inside the grid, but not in this tile.
abbrev pub is_in_other_tile : Cutting → ℕ → Place → Bool
is_in_other_tile t tile p = is_within t p && not (tile_of_place t p == tile)

-- The places around p that lie in other tiles than p, in the order of the direction codes.
abbrev pub outer_places : Cutting → Place → List Place
outer_places t p = filter (is_in_other_tile t (tile_of_place t p)) (places_around p)

-- A view of a tile: the grid's cutting and cells, and the tile's number.
pub record View (X : Type 0) : Type 0 where
  pub cutting : Cutting
  pub tile : ℕ
  pub cells : List X

-- The view has a cutting within limits, one of its tiles, and a cell for each place of the grid.
pub record IsView {X : Type 0} (v : View X) : Type 0 where
  pub cutting : IsCutting v.cutting
  pub tile : v.tile < tile_count v.cutting
  pub size : length v.cells ≡ v.cutting.cols * v.cutting.rows

-- A view of the tile shows place p: p is inside the grid, and in the tile or next to it.
abbrev pub is_shown : Cutting → ℕ → Place → Bool
is_shown t tile p =
    let b = bounds_of t tile in
    is_within t p && nat_le b.top (p.row + 1) && nat_le p.row (b.top + b.rows)
    && nat_le b.left (p.col + 1) && nat_le p.col (b.left + b.cols)

-- The cell at a place that a view shows; `None` at other places.
abbrev pub cell_shown : {X : Type 0} → View X → Place → Option X
cell_shown v p =
    if is_shown v.cutting v.tile p then slice_get v.cells (index_of v.cutting.cols p) else None

-- The cells of row i of the view's tile; its first row is row 0.
abbrev pub row_shown : {X : Type 0} → View X → ℕ → List X
row_shown v i =
    let b = bounds_of v.cutting v.tile in
    let from = (b.top + i) * v.cutting.cols + b.left in
    slice_range v.cells from (from + b.cols)

-- The index of a place in the row order of its tile.
abbrev pub index_in_tile : Cutting → Place → ℕ
index_in_tile t p = index_in (bounds_of t (tile_of_place t p)) p

-- One list for each tile, with as many entries as the tile has cells.
pub record AreTileLists {X : Type 0} (t : Cutting) (lists : List (Vec X Global)) : Type 0 where
  pub count : length lists ≡ tile_count t
  pub each : (tile : ℕ) (list : Vec X Global) → slice_get lists tile ≡ Some list →
      length list.items ≡ cell_count t tile

-- The entry for a place in the list of the place's tile.
abbrev pub listed_at : {X : Type 0} → Cutting → List (Vec X Global) → Place → Option X
listed_at {X} t lists p = option_and_then
    (λ (list : Vec X Global). slice_get list.items (index_in_tile t p))
    (slice_get lists (tile_of_place t p))

-- `whole` has an entry for each place of the grid, in row order, from the list of the place's tile.
pub record IsPutBack {X : Type 0} (t : Cutting) (lists : List (Vec X Global))
    (whole : List X) : Type 0 where
  pub size : length whole ≡ t.cols * t.rows
  pub each : (p : Place) → IsWithin t p → slice_get whole (index_of t.cols p) ≡ listed_at t lists p

-- The cutting's grid has the size of the terrain.
abbrev pub Cuts : Cutting → Terrain → Type 0
Cuts c t = (c.cols ≡ t.cols) × (c.rows ≡ t.rows)

-- The whole grid whose cells a view has, as a terrain without sinks.
abbrev pub terrain_of : View (Option ℤ) → Terrain
terrain_of v = record { cols = v.cutting.cols; rows = v.cutting.rows; cells = v.cells; sinks = [] }

-- The entry for place p in a list in the row order of a tile; `None` outside the tile.
abbrev pub tile_entry : {X : Type 0} → Cutting → ℕ → List (Option X) → Place → Option X
tile_entry c tile entries p =
    if is_within c p && tile_of_place c p == tile
    then slice_index_or entries (index_in_tile c p) None else None
