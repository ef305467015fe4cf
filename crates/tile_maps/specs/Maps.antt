-- Lists of a map's entries in row order, for all places of a grid or a tile, or for the first
-- places of bounds (a rectangle). `Has p entry` says that place p may have this entry.
-- Source: this project.
-- Public.
use Rattle.std.specs.Prelude.{◌≡◌, ℕ, ◌*◌, ◌<◌, List, length, Some, slice_get}
use Rattle.terrain.specs.Neighbours.{index_of}
use Rattle.terrain.specs.declared.place.Place.{Place}
use Rattle.tiles.specs.declared.bounds.Bounds.{Bounds}
use Rattle.tiles.specs.Cutting.{Cutting, index_in, IsInBounds, IsInTile, IsWithin, cell_count, index_in_tile}

-- The list has `end` entries, for the first places of the bounds in row order.
-- `Has` holds of each entry at its place.
pub record IsMadeUpTo {X : Type 0} (b : Bounds) (Has : Place → X → Type 0) (end : ℕ)
    (list : List X) : Type 0 where
  pub size : length list ≡ end
  pub each : (p : Place) → IsInBounds b p → index_in b p < end → (entry : X) →
      slice_get list (index_in b p) ≡ Some entry → Has p entry

-- The list has an entry for each place of the bounds, in row order. `Has` holds of each of the
-- first `end` entries at its place.
pub record AreSetUpTo {X : Type 0} (b : Bounds) (Has : Place → X → Type 0) (end : ℕ)
    (list : List X) : Type 0 where
  pub size : length list ≡ b.rows * b.cols
  pub each : (p : Place) → IsInBounds b p → index_in b p < end → (entry : X) →
      slice_get list (index_in b p) ≡ Some entry → Has p entry

-- The list has an entry for each place of the tile, in row order. `Has` holds of each entry at its
-- place.
pub record IsMadeTile {X : Type 0} (c : Cutting) (tile : ℕ) (Has : Place → X → Type 0)
    (list : List X) : Type 0 where
  pub size : length list ≡ cell_count c tile
  pub each : (p : Place) → IsInTile c tile p → (entry : X) →
      slice_get list (index_in_tile c p) ≡ Some entry → Has p entry

-- The list has an entry for each place of the grid, in row order. `Has` holds of each entry at its
-- place.
pub record IsMadeMap {X : Type 0} (c : Cutting) (Has : Place → X → Type 0)
    (list : List X) : Type 0 where
  pub size : length list ≡ c.cols * c.rows
  pub each : (p : Place) → IsWithin c p → (entry : X) →
      slice_get list (index_of c.cols p) ≡ Some entry → Has p entry
