-- Tiles whose cells are raised: each data cell gets the greater of its level and the crest of its
-- label in the spill graph.
-- Private.
use Rattle.std.specs.Prelude.{◌≡◌, ℕ, ◌+◌, ◌/◌, ◌%◌, ◌<◌, ℤ, pos, List, length, Option, None, Some, slice_index_or, option_and_then}
use Rattle.terrain.specs.StoredCells.{cell_of}
use Rattle.terrain.specs.declared.place.Place.{Place}
use Rattle.terrain.specs.Neighbours.{index_of}
use Rattle.tiles.specs.Cutting.{Cutting, IsInBounds, View, bounds_of, index_in}
use Rattle.cell_floods.specs.TileFlood.{Flood, IsFlood, levels_where}
use Rattle.fill.specs.Gathering.{cell_label_among}
use Rattle.fill.specs.SpillGraph.{greater_of, level_among}
use Rattle.fill.specs.declared.cell_labels.CellLabel.{CellLabel}
use Rattle.fill.specs.RaisedRuns.{AreRaised, IsFound}
use Rattle.fill.specs.declared.raised_runs.RaisedRun.{RaisedRun}
use Rattle.fill.specs.declared.raised_tiles.RaisedTile.{RaisedTile}

-- The crest of the label in a cell label, which is a cell's level and the number of its
-- label. `levels` has the crest of each label, by number.
abbrev pub crest_with : List (Option ℤ) → Option CellLabel → Option ℤ
crest_with levels cell_label = option_and_then (λ m. slice_index_or levels m.node None) cell_label

-- The raised height of a place, by the flood of its tile and the crests of labels.
abbrev pub raised_among : Cutting → List Flood → List (Option ℤ) → Place → Option ℤ
raised_among c floods levels p =
    greater_of (level_among c floods p) (crest_with levels (cell_label_among c floods p))

-- The tile has the levels and label indexes of this flood, and the crests of its labels. Labels are
-- numbered through the tables of all tiles; this table begins at number `first`.
pub record IsRaisedTile (first : ℕ) (f : Flood) (crests : List (Option ℤ))
    (x : RaisedTile) : Type 0 where
  pub lawful : IsFlood f
  pub heights : f.levels ≡ levels_where f.labels x.heights.now
  pub size : length x.heights.now ≡ length f.labels
  pub labels : x.labels.now.indexes ≡ f.table.indexes
  pub crests_size : length x.crests.now ≡ length f.table.places
  pub each : (k : ℕ) → k < length f.table.places →
      slice_index_or x.crests.now k None ≡ slice_index_or crests (first + k) None

-- The cell that the lists of a tile give the cell at index k in the tile's row order.
abbrev pub cell_at : RaisedTile → ℕ → Option ℤ
cell_at x k = cell_of (greater_of (Some (slice_index_or x.heights.now k (pos 0)))
    (slice_index_or x.crests.now (slice_index_or x.labels.now.indexes k 0) None))

-- `raised` gives these cells to `count` cells of the grid. The first of them has index `start` in
-- the tile's row order, and `first` in the grid's.
abbrev pub HasRow : RaisedTile → (ℕ → Option ℤ) → ℕ → ℕ → ℕ → Type 0
HasRow x raised start first count =
    (k : ℕ) → k < count → raised (first + k) ≡ cell_at x (start + k)

-- `raised` gives these cells to all cells of the tile.
abbrev pub HasTile : RaisedTile → (ℕ → Option ℤ) → Cutting → ℕ → Type 0
HasTile x raised c tile =
    (p : Place) → IsInBounds (bounds_of c tile) p →
    raised (index_of c.cols p) ≡ cell_at x (index_in (bounds_of c tile) p)

-- The runs have raised cells, and each cell of the tile that rises above the cell read is in one.
pub record AreTileRuns (raised : ℕ → Option ℤ) (v : View (Option ℤ)) (runs : List RaisedRun)
    : Type 0 where
  pub sound : AreRaised raised runs
  pub each : (p : Place) → IsInBounds (bounds_of v.cutting v.tile) p →
      let i = index_of v.cutting.cols p in
      IsFound raised runs (slice_index_or v.cells i None) i

-- The raised cell of index i in row order of the grid.
abbrev pub raised_cell : Cutting → List Flood → List (Option ℤ) → ℕ → Option ℤ
raised_cell c floods levels i =
    cell_of (raised_among c floods levels (record { row = i / c.cols; col = i % c.cols }))
