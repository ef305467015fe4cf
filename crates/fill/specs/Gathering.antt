-- The joins of a spill graph, as collected from the floods of the tiles. A tile's flood has the
-- level and the label of each data cell, and a table that lists the tile's labels.
-- Public.
use Rattle.std.specs.Prelude.{◌≡◌, ◌≢◌, ℕ, ◌+◌, ◌-◌, ◌*◌, ◌<◌, ◌⊎◌, ◌==◌, if◌then◌else◌, ℤ, ◌≤ℤ◌, List, [], ◌∷◌, length, Option, None, Some, slice_get, slice_index_or, option_and_then}
use Rattle.std.specs.Int.{int_max}
use Rattle.std.specs.List.{Contains}
use Rattle.terrain.specs.Neighbours.{Touches}
use Rattle.terrain.specs.Ways.{place_on}
use Rattle.terrain.specs.declared.place.Place.{Place}
use Rattle.tiles.specs.Cutting.{Cutting, IsWithin, tile_count, tile_of_place, bounds_of, is_in_bounds, index_in}
use Rattle.cell_floods.specs.TileFlood.{Flood}
use Rattle.fill.specs.Numbers.{first_of}
use Rattle.fill.specs.declared.spill_graph.Join.{Join}
use Rattle.fill.specs.declared.cell_labels.CellLabel.{CellLabel}
use Rattle.floods.specs.declared.net.Spill.{Spill}

-- The labels of the flood are places of the grid.
abbrev pub LabelsInside : Cutting → Flood → Type 0
LabelsInside c f =
    (i : ℕ) (label : Place) → slice_index_or f.labels i None ≡ Some label → IsWithin c label

-- There is one flood for each tile. It has the tile's bounds, and an entry of `levels` and of
-- `labels` for each cell of the tile.
pub record Fit (c : Cutting) (floods : List Flood) : Type 0 where
  pub count : length floods ≡ tile_count c
  pub bounds : (tile : ℕ) (f : Flood) → slice_get floods tile ≡ Some f → f.bounds ≡ bounds_of c tile
  pub sizes : (tile : ℕ) (f : Flood) → slice_get floods tile ≡ Some f →
      length f.labels ≡ f.bounds.rows * f.bounds.cols
  pub levels : (tile : ℕ) (f : Flood) → slice_get floods tile ≡ Some f →
      length f.levels ≡ f.bounds.rows * f.bounds.cols

-- A cell label: a cell's level, and `node` for its label. `node` is the label's index in its tile's
-- table, or its number, which counts the entries of all tables (`Numbers`). None if level or label
-- is None.
abbrev pub cell_label_of : ℕ → Option ℤ → Option Place → Option CellLabel
cell_label_of node (Some level) (Some label) = Some (record { level = level; node = node })
cell_label_of node (Some level) None = None
cell_label_of node None label = None

-- The cell label of the cell at `index` in a tile's row order. The first entry of the tile's table
-- of labels has number `first`.
abbrev pub cell_label_with : ℕ → Flood → ℕ → Option CellLabel
cell_label_with first f index = cell_label_of (first + slice_index_or f.table.indexes index 0)
    (slice_index_or f.levels index None) (slice_index_or f.labels index None)

-- The cell label of a place; None outside the tile, or where level or label is missing.
abbrev pub cell_label_in : ℕ → Flood → Place → Option CellLabel
cell_label_in first f p =
    if is_in_bounds f.bounds p then cell_label_with first f (index_in f.bounds p) else None

-- The cell label of place `p`, from the flood of its tile. It gives the label by its number over
-- all tiles.
abbrev pub cell_label_among : Cutting → List Flood → Place → Option CellLabel
cell_label_among c floods p =
    option_and_then (λ f. cell_label_in (first_of floods (tile_of_place c p)) f p)
    (slice_get floods (tile_of_place c p))

-- A function that gives each place its cell label, or None if the place has no cell label.
abbrev pub CellLabelling : Type 0
CellLabelling = Place → Option CellLabel

-- Cells `p` and `q`, which touch, have the labels of join `j`. The labels differ. The height of `j`
-- is the greater of the levels of the cells.
pub record Meets (cell_labels : CellLabelling) (p q : Place) (j : Join) : Type 0 where
  pub touches : Touches p q
  pub from_level : ℤ
  pub to_level : ℤ
  pub from_is : cell_labels p ≡ Some (record { level = from_level; node = j.from })
  pub to_is : cell_labels q ≡ Some (record { level = to_level; node = j.to })
  pub different : j.from ≢ j.to
  pub greater : int_max from_level to_level ≡ j.height

-- `j` is the join (`Meets`) of two cells p and q, and `pairs` holds of their places.
abbrev pub IsMeetingAt : CellLabelling → (Place → Place → Type 0) → Join → Type 0
IsMeetingAt cell_labels pairs j = (p q : Place) × pairs p q × Meets cell_labels p q j

-- The join of two cells, by their cell labels `from` and `to`. There is no join if `to` is None, or
-- the labels are equal.
abbrev pub joins_of : CellLabel → Option CellLabel → List Join
joins_of from None = []
joins_of from (Some to) =
    if from.node == to.node then []
    else record { from = from.node; to = to.node; height = int_max from.level to.level } ∷ []

-- A listed join has the labels of `j` and is at most as high.
abbrev pub Covered : List Join → Join → Type 0
Covered joins j =
    (k : Join) × Contains joins k × (k.from ≡ j.from) × (k.to ≡ j.to) × (k.height ≤ℤ j.height)

-- Place `q` comes after place `p` in row order.
abbrev pub IsLater : Place → Place → Type 0
IsLater p q = (p.row < q.row) ⊎ ((p.row ≡ q.row) × (p.col < q.col))

-- Place `q` is `p`, and place `r` lies in direction `way` from `p`.
abbrev pub IsPairOn : ℕ → Place → Place → Place → Type 0
IsPairOn way p q r = (q ≡ p) × (place_on way p ≡ Some r)

-- The joins of those `pairs` of places whose first is before the second in row order have been
-- added. Each join added is that of one of `pairs`, whichever of the two places comes first.
pub record Adds (cell_labels : CellLabelling) (pairs : Place → Place → Type 0)
    (old new : List Join) : Type 0 where
  pub kept : (j : Join) → Contains old j → Contains new j
  pub only : (j : Join) → Contains new j → Contains old j ⊎ IsMeetingAt cell_labels pairs j
  pub every : (p q : Place) (j : Join) → pairs p q → IsLater p q → Meets cell_labels p q j →
      Contains new j

-- Each join added is that of two cells.
abbrev pub AddsMeetings : Cutting → List Flood → List Join → List Join → Type 0
AddsMeetings c floods old new = (j : Join) → Contains new j →
    Contains old j ⊎ ((p q : Place) × Meets (cell_label_among c floods) p q j)

-- The join with its labels exchanged.
abbrev pub turned : Join → Join
turned j = record { from = j.to; to = j.from; height = j.height }

-- The labels of the first join come before those of the second: by `from`, then by `to`.
abbrev pub IsBefore : Join → Join → Type 0
IsBefore j k = (j.from < k.from) ⊎ ((j.from ≡ k.from) × (j.to < k.to))

-- The joins are in the order of their labels, each pair of labels at most once.
abbrev pub AreRising : List Join → Type 0
AreRising joins = (m n : ℕ) (d : Join) → m < n → n < length joins →
    IsBefore (slice_index_or joins m d) (slice_index_or joins n d)

-- `lowest` has, of the `joins` of each pair of labels, the lowest. It is in the order of the
-- labels.
pub record AreLowest (joins lowest : List Join) : Type 0 where
  pub only : (j : Join) → Contains lowest j → Contains joins j
  pub every : (j : Join) → Contains joins j → Covered lowest j
  pub rising : AreRising lowest

-- `joins` has the joins of all cells with the cells after them in row order. Each of `joins` is a
-- join of two cells.
pub record AreGathered (c : Cutting) (floods : List Flood) (joins : List Join) : Type 0 where
  pub only : AddsMeetings c floods [] joins
  pub every : (p q : Place) (j : Join) → IsWithin c p → IsLater p q →
      Meets (cell_label_among c floods) p q j → Contains joins j

-- The join at an index has the labels of the join before it.
abbrev pub IsRepeat : List Join → ℕ → Type 0
IsRepeat joins i = (0 < i) × ((d : Join) →
    ((slice_index_or joins (i - 1) d).from ≡ (slice_index_or joins i d).from)
    × ((slice_index_or joins (i - 1) d).to ≡ (slice_index_or joins i d).to))

-- The arc from the first label of a join.
abbrev pub arc_of : Join → Spill
arc_of j = record { to = j.to; height = j.height }
