-- Numbers the rim cells of all tiles. Each tile has equally many numbers, some of them without a
-- cell. Source: this project.
-- Public.
use Rattle.std.specs.Prelude.{ℕ, ◌+◌, ◌-◌, ◌*◌, ◌/◌, ◌%◌, ◌==◌, nat_lt, if◌then◌else◌}
use Rattle.terrain.specs.declared.place.Place.{Place}
use Rattle.tiles.specs.declared.bounds.Bounds.{Bounds}
use Rattle.tiles.specs.Cutting.{Cutting, bounds_of, tile_count, tile_of_place}

-- How many numbers each tile has, if `largest` are the bounds of the largest tile.
abbrev pub stride : Bounds → ℕ
stride largest = 2 * largest.cols + 2 * largest.rows

-- In a tile of bounds b, if `largest` are the bounds of the largest tile: the number, from 0, of
-- rim cell p, and the rim cell of number i. Numbers run along the first row, the last row, the
-- first column, then the last column. A number without a rim cell gets the rim cell of another
-- number or a place outside the tile.
abbrev pub side_number : Bounds → Bounds → Place → ℕ
side_number largest b p =
    if p.row == b.top then p.col - b.left
    else if p.row + 1 == b.top + b.rows then largest.cols + (p.col - b.left)
    else if p.col == b.left then 2 * largest.cols + (p.row - b.top)
    else 2 * largest.cols + largest.rows + (p.row - b.top)

abbrev pub side_place : Bounds → Bounds → ℕ → Place
side_place largest b i =
    if nat_lt i largest.cols then record { row = b.top; col = b.left + i }
    else if nat_lt i (2 * largest.cols)
    then record { row = b.top + b.rows - 1; col = b.left + (i - largest.cols) }
    else if nat_lt i (2 * largest.cols + largest.rows)
    then record { row = b.top + (i - 2 * largest.cols); col = b.left }
    else record { row = b.top + (i - (2 * largest.cols + largest.rows)); col = b.left + b.cols - 1 }

-- How many numbers all tiles have. No tile is larger than tile 0.
abbrev pub rim_number_count : Cutting → ℕ
rim_number_count t = tile_count t * stride (bounds_of t 0)

-- The number of a rim cell, and the rim cell of a number. A number without a rim cell gets the rim
-- cell of another number or a place outside the tile.
abbrev pub rim_number : Cutting → Place → ℕ
rim_number t p =
    tile_of_place t p * stride (bounds_of t 0)
    + side_number (bounds_of t 0) (bounds_of t (tile_of_place t p)) p

abbrev pub rim_place : Cutting → ℕ → Place
rim_place t i = side_place (bounds_of t 0) (bounds_of t (i / stride (bounds_of t 0)))
    (i % stride (bounds_of t 0))
