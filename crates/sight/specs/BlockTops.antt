-- Upper bounds of the heights of blocks of `size` by `size` cells, one bound for each block.
-- Private.
use Rattle.std.specs.Prelude.{◌≡◌, ℕ, ◌+◌, ◌-◌, ◌*◌, ◌/◌, ◌<◌, ◌≤◌, ℤ, List, [], length, Option, Some}
use Rattle.terrain.specs.Raster.{Terrain, IsHeight}
use Rattle.terrain.specs.Neighbours.{height_at}
use Rattle.terrain.specs.declared.place.Place.{Place}
use Rattle.tiles.specs.Cutting.{Cutting, bounds_of}
use Rattle.tiles.specs.declared.bounds.Bounds.{Bounds}
use Rattle.tile_maps.specs.Maps.{IsMadeUpTo}
use Rattle.sightlines.specs.Walk.{AreHeights}
use Rattle.sightlines.specs.Blocks.{blocks_in, IsTopOf}

-- A list of cells in row order, as a terrain without sinks.
abbrev pub ground_of : ℕ → ℕ → List (Option ℤ) → Terrain
ground_of cols rows cells = record { cols = cols; rows = rows; cells = cells; sinks = [] }

-- The numbers of columns and of rows are from 1 to 4096. Each place has a cell, and heights are
-- within limits.
pub record IsGround (cols rows : ℕ) (cells : List (Option ℤ)) : Type 0 where
  pub cols_in : (1 ≤ cols) × (cols ≤ 4096)
  pub rows_in : (1 ≤ rows) × (rows ≤ 4096)
  pub size : length cells ≡ cols * rows
  pub heights : AreHeights cells

-- A block exists in row `block.row` and column `block.col` of the blocks.
abbrev pub IsBlock : ℕ → Terrain → Place → Type 0
IsBlock size t block = (block.row < blocks_in size t.rows) × (block.col < blocks_in size t.cols)

-- No height of the block is above `top`, which is a height within limits or None. It is None only
-- if the block has no height.
pub record IsBlockTop (size : ℕ) (t : Terrain) (block : Place) (top : Option ℤ) : Type 0 where
  pub height : (h : ℤ) → top ≡ Some h → IsHeight h
  pub above : (p : Place) (h : ℤ) → p.row / size ≡ block.row → p.col / size ≡ block.col →
      height_at t p ≡ Some h → IsTopOf top h

-- All blocks of `rows` by `cols` cells, by the blocks' rows and columns.
abbrev pub all_blocks : ℕ → ℕ → ℕ → Bounds
all_blocks size rows cols =
    record { top = 0; left = 0; rows = blocks_in size rows; cols = blocks_in size cols }

-- The near blocks whose first cell lies in the bounds, by the blocks' rows and columns.
abbrev pub blocks_begun : Bounds → Bounds
blocks_begun b = record {
  top = blocks_in 16 b.top;
  left = blocks_in 16 b.left;
  rows = blocks_in 16 (b.top + b.rows) - blocks_in 16 b.top;
  cols = blocks_in 16 (b.left + b.cols) - blocks_in 16 b.left;
}

-- The list has an upper bound for each near block that begins in the tile, in row order.
abbrev pub IsTileTops : Cutting → Terrain → ℕ → List (Option ℤ) → Type 0
IsTileTops c t tile tops =
    let b = blocks_begun (bounds_of c tile) in
    IsMadeUpTo b (IsBlockTop 16 t) (b.rows * b.cols) tops
