-- The levels and labels of a tile's cells. A level is the least crest of a cell's paths inside the
-- tile. A label is the end cell or rim cell where a path of that crest ends.
-- Public.
use Rattle.std.specs.Prelude.{◌≡◌, ℕ, ◌*◌, ◌⊎◌, ℤ, ◌≤ℤ◌, List, [], ◌∷◌, length, Option, None, Some, IsTrue, MatchOption, option_map, slice_index_or}
use Rattle.std.specs.Int.{int_max}
use Rattle.terrain.specs.Raster.{Terrain}
use Rattle.terrain.specs.Neighbours.{height_at, IsDataCell, IsNeighbour, IsEnd}
use Rattle.drainage.specs.Filled.{crest}
use Rattle.terrain.specs.declared.place.Place.{Place}
use Rattle.tiles.specs.declared.bounds.Bounds.{Bounds}
use Rattle.cell_floods.specs.Cells.{last_cell}
use Rattle.cell_floods.specs.Labels.{LabelTable, IsTable, labels_by}
use Rattle.cell_floods.specs.declared.tile.Meeting.{Meeting}
use Rattle.tiles.specs.Cutting.{Cutting, IsWithinLimits, tile_of_place, bounds_of, is_on_rim, entry_in, IsInTile, cell_count}

-- A source of a tile: a data cell on its rim, or an end cell.
abbrev pub IsTileSource : Terrain → Cutting → Place → Type 0
IsTileSource t c p = (IsDataCell t p × IsTrue (is_on_rim c p)) ⊎ IsEnd t p

-- A tile path: neighbours in one tile, the last a source of the tile.
abbrev pub IsTilePath : Terrain → Cutting → Place → List Place → Type 0
IsTilePath t c p [] = IsTileSource t c p
IsTilePath t c p (q ∷ rest) =
    IsNeighbour t p q × (tile_of_place c q ≡ tile_of_place c p) × IsTilePath t c q rest

-- The level is the least crest of p's tile paths, and a tile path of that crest ends at the
-- label. A source whose level is its own height is its own label.
pub record IsTileLevel (t : Terrain) (c : Cutting) (p : Place) (level : ℤ)
    (label : Place) : Type 0 where
  pub reached : (rest : List Place) × IsTilePath t c p rest × (crest t p rest ≡ level)
      × (last_cell p rest ≡ label)
  pub least : (rest : List Place) → IsTilePath t c p rest → level ≤ℤ crest t p rest
  pub own : IsTileSource t c p → height_at t p ≡ Some level → label ≡ p

-- `end` is p's height if p is an end cell, else None.
abbrev pub IsEndHeight : Terrain → Place → Option ℤ → Type 0
IsEndHeight t p end = MatchOption end (IsEnd t p → ⊥) (λ h. IsEnd t p × (height_at t p ≡ Some h))

-- `ends` has the height of each label of the table that is an end cell, None for other entries.
pub record AreEndHeights (t : Terrain) (places : List (Option Place)) (ends : List (Option ℤ))
    : Type 0 where
  pub size : length ends ≡ length places
  pub none : (k : ℕ) → slice_index_or places k None ≡ None → slice_index_or ends k None ≡ None
  pub each : (k : ℕ) (p : Place)
      → slice_index_or places k None ≡ Some p → IsEndHeight t p (slice_index_or ends k None)

-- A tile's bounds; its levels and labels in row order; the table of labels. `ends` has the heights
-- of labels that are end cells, and None for other entries of the table.
pub record Flood : Type 0 where
  pub bounds : Bounds
  pub levels : List (Option ℤ)
  pub labels : List (Option Place)
  pub table : LabelTable
  pub ends : List (Option ℤ)

-- The level of each cell: its entry of `heights`, None for a cell without a label.
abbrev pub levels_where : List (Option Place) → List ℤ → List (Option ℤ)
levels_where [] heights = []
levels_where (label ∷ labels) [] = []
levels_where (label ∷ labels) (height ∷ heights) =
    option_map (λ _. height) label ∷ levels_where labels heights

-- The flood with these bounds, levels (`heights`), table and heights of end cells.
abbrev pub flood_of : Bounds → List ℤ → LabelTable → List (Option ℤ) → Flood
flood_of b heights table ends =
    let labels = labels_by table.places table.indexes in
    record {
      bounds = b;
      levels = levels_where labels heights;
      labels = labels;
      table = table;
      ends = ends;
    }

-- The level at place p, None if p has no level.
abbrev pub level_in : Flood → Place → Option ℤ
level_in f p = entry_in f.bounds f.levels p

-- The label at place p, None if p has no label.
abbrev pub label_in : Flood → Place → Option Place
label_in f p = entry_in f.bounds f.labels p

-- A `TileFlood`'s invariant: bounds within 4,096 by 4,096, labels by a table, an entry a cell.
pub record IsFlood (f : Flood) : Type 0 where
  pub labels : f.labels ≡ labels_by f.table.places f.table.indexes
  pub table : IsTable f.table.places f.table.indexes
  pub limits : IsWithinLimits f.bounds
  pub levels_size : length f.levels ≡ f.bounds.rows * f.bounds.cols
  pub labels_size : length f.labels ≡ f.bounds.rows * f.bounds.cols

-- The flood of a tile: its data cells have levels and labels, other cells have none. `ends` has the
-- heights of the labels that are end cells.
pub record IsTileFlood (t : Terrain) (c : Cutting) (tile : ℕ) (f : Flood) : Type 0 where
  pub bounds : f.bounds ≡ bounds_of c tile
  pub levels_size : length f.levels ≡ cell_count c tile
  pub labels_size : length f.labels ≡ cell_count c tile
  pub each : (p : Place) → IsInTile c tile p →
      MatchOption (height_at t p) ((level_in f p ≡ None) × (label_in f p ≡ None))
      (λ _. (level : ℤ) × (label : Place) × (level_in f p ≡ Some level)
      × (label_in f p ≡ Some label) × IsTileLevel t c p level label)
  pub ends : AreEndHeights t f.table.places f.ends

-- Two neighbouring cells have the labels at these indexes of the table. The greater of their levels
-- is that of the meeting.
pub record IsMeeting (t : Terrain) (f : Flood) (m : Meeting) : Type 0 where
  pub from : Place
  pub to : Place
  pub from_level : ℤ
  pub to_level : ℤ
  pub neighbours : IsNeighbour t from to
  pub from_label : label_in f from ≡ slice_index_or f.table.places m.from None
  pub to_label : label_in f to ≡ slice_index_or f.table.places m.to None
  pub from_is : level_in f from ≡ Some from_level
  pub to_is : level_in f to ≡ Some to_level
  pub greater : int_max from_level to_level ≡ m.level
