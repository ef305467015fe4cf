-- The directions of a tile as links between its cells, by their indexes in the tile's row order.
-- Public.
use Rattle.std.specs.Prelude.{◌≡◌, ℕ, ◌+◌, ◌-◌, ◌*◌, ◌/◌, ◌%◌, ◌^◌, ◌<◌, ◌≤◌, ◌==◌, if◌then◌else◌, is_some, List, [], map, length, Option, None, Some, slice_index, slice_index_or, unwrap_or, option_and_then}
use Rattle.std.specs.List.{range_with_len}
use Rattle.terrain.specs.Ways.{place_toward, code_of}
use Rattle.tiles.specs.Cutting.{longest_axis, is_in_bounds, index_in, place_in}
use Rattle.terrain.specs.declared.place.Place.{Place}
use Rattle.tiles.specs.declared.bounds.Bounds.{Bounds}
use Rattle.drainage.specs.Following.{Directed, code_at}
use Rattle.flow.specs.Streams.{AreStreams, end_of}
use Rattle.flow.specs.TileFlow.{Flow, IsFlow}
use Rattle.tiles.specs.RimNumbers.{stride, side_place}

-- The bounds have a column, and end within the largest grid.
pub record EndsInLargestGrid (b : Bounds) : Type 0 where
  pub some_col : 1 ≤ b.cols
  pub few_rows : b.top + b.rows ≤ longest_axis
  pub few_cols : b.left + b.cols ≤ longest_axis

-- All eight places around the cell lie in the bounds. `row` and `col` count from top and left.
pub record IsInteriorAt (b : Bounds) (row col : ℕ) : Type 0 where
  pub first_row : 0 < row
  pub last_row : row + 1 < b.rows
  pub first_col : 0 < col
  pub last_col : col + 1 < b.cols

-- The codes of the cells in the bounds, in their row order.
pub record AreTileCodes (d : Directed) (b : Bounds) (cells : List (Option ℕ)) : Type 0 where
  pub size : length cells ≡ b.rows * b.cols
  pub each : (i : ℕ) → i < b.rows * b.cols → slice_index_or cells i None ≡ code_at d (place_in b i)

-- The link of cell i with this code: the index of the cell to which the code leads. The link is i
-- if the code leads to no cell in the bounds.
abbrev pub link_by : Bounds → ℕ → Option ℕ → ℕ
link_by b i code =
    let p = place_in b i in
    let q = unwrap_or (option_and_then (λ c. place_toward c p) code) p in
    if is_in_bounds b q then index_in b q else i

abbrev pub links_by : Bounds → List (Option ℕ) → List ℕ
links_by b cells =
    map (λ i. link_by b i (slice_index_or cells i None)) (range_with_len 0 (b.rows * b.cols))

-- A move is 64 times the rows down to a cell plus the columns right, each plus 1, plus 4 times the
-- number of the cell's code. From the cell with index i, in rows of `cols` cells, it leads to index
-- `reach cols i move - (cols + 1)`.
abbrev pub reach : ℕ → ℕ → ℕ → ℕ
reach cols i move = i + move / 64 * cols + move % 4

-- The code with this number: a direction has its own, an outlet 8, NODATA 9.
abbrev pub code_numbered : ℕ → Option ℕ
code_numbered n = if n == 9 then None else Some (code_of (Some n))

-- The code that a move tells.
abbrev pub code_told : ℕ → Option ℕ
code_told move = code_numbered (move / 4 % 16)

-- The code of each cell of a tile, and the index of the cell to which it is linked.
pub record LinkedCells : Type 0 where
  pub codes : List (Option ℕ)
  pub links : List ℕ

abbrev pub moved_by : ℕ → List ℕ → List ℕ
moved_by cols moves = map (λ i. reach cols i (slice_index moves i) - (cols + 1))
    (range_with_len 0 (length moves))

-- Each cell's move leads to an index, and what finds it stays below 2^32.
pub record AreMoves (cols : ℕ) (moves : List ℕ) : Type 0 where
  pub low : (i : ℕ) → i < length moves → cols + 1 ≤ reach cols i (slice_index moves i)
  pub high : (i : ℕ) → i < length moves → reach cols i (slice_index moves i) < 2 ^ 32

-- The move of cell i leads to the cell to which cell i with this code is linked.
abbrev pub IsLeading : Bounds → ℕ → Option ℕ → ℕ → Type 0
IsLeading b i code move = reach b.cols i move ≡ link_by b i code + (b.cols + 1)

-- The move of cell i also tells the cell's code.
pub record IsMove (b : Bounds) (i : ℕ) (code : Option ℕ) (move : ℕ) : Type 0 where
  pub leads : IsLeading b i code move
  pub tells : code_told move ≡ code

-- The move of each cell in the bounds.
pub record AreMovesOf (b : Bounds) (cells : List (Option ℕ)) (moves : List ℕ) : Type 0 where
  pub size : length moves ≡ b.rows * b.cols
  pub each : (i : ℕ) → i < b.rows * b.cols →
      IsMove b i (slice_index_or cells i None) (slice_index moves i)

-- The move of each cell with this code that is interior in its bounds.
abbrev pub IsInteriorMove : Option ℕ → ℕ → Type 0
IsInteriorMove code move =
    (b : Bounds) (row col : ℕ) → IsInteriorAt b row col → IsMove b (row * b.cols + col) code move

-- The moves of cells that are all interior.
pub record AreInteriorMoves (cells : List (Option ℕ)) (moves : List ℕ) : Type 0 where
  pub size : length moves ≡ length cells
  pub each : (i : ℕ) → i < length cells →
      IsInteriorMove (slice_index_or cells i None) (slice_index moves i)

abbrev pub weights_by : List (Option ℕ) → List ℕ
weights_by cells = map (λ code. if is_some code then 1 else 0) cells

-- A value at a data cell, `None` at NODATA.
abbrev pub where_data : {X : Type 0} → Option ℕ → X → Option X
where_data None x = None
where_data (Some code) x = Some x

-- Each data cell's total, less 1 for the cell itself; `None` at NODATA.
abbrev pub counts_by : List (Option ℕ) → (ℕ → ℕ) → List (Option ℕ)
counts_by cells totals =
    map (λ i. where_data (slice_index_or cells i None) (totals i - 1))
    (range_with_len 0 (length cells))

-- The index where each cell's path along links ends.
abbrev pub ends_by : List ℕ → List ℕ
ends_by links = map (end_of links) (range_with_len 0 (length links))

-- The index where each rim cell's path ends: for the first row of b, the last row, the first
-- column, then the last column. A cell in several of these occurs in each.
abbrev pub rim_ends_by : Bounds → List ℕ → List ℕ
rim_ends_by b links =
    map (λ side. end_of links (index_in b (side_place b b side))) (range_with_len 0 (stride b))

abbrev pub exits_by : Bounds → List (Option ℕ) → List ℕ → List (Option Place)
exits_by b cells ends = map (λ i. where_data (slice_index_or cells i None)
    (place_in b (slice_index ends i))) (range_with_len 0 (length cells))

-- The flow of a tile without counts, by its codes and the ends of paths along links.
abbrev pub flow_by : Bounds → List (Option ℕ) → List ℕ → Flow
flow_by b cells ends =
    record { bounds = b; codes = cells; through = []; exits = exits_by b cells ends }

abbrev pub without_counts : Flow → Flow
without_counts f = record { bounds = f.bounds; codes = f.codes; through = []; exits = f.exits }

-- The flow with the counts that the cells' totals give.
abbrev pub with_counts : Flow → List ℕ → Flow
with_counts f totals = record {
  bounds = f.bounds;
  codes = f.codes;
  through = counts_by f.codes (slice_index totals);
  exits = f.exits;
}

-- Lists of one lawful flow with these codes. The links are those of the codes, and all paths along
-- them end. `rim_ends` has the ends of the rim cells' paths.
pub record AreFlowLists (b : Bounds) (cells : List (Option ℕ))
    (links rim_ends : List ℕ) : Type 0 where
  pub linked : links ≡ links_by b cells
  pub lawful : IsFlow (flow_by b cells (ends_by links))
  pub streams : AreStreams links
  pub rim : rim_ends ≡ rim_ends_by b links
