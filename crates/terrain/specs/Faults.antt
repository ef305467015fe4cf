-- The first fault among the entries of a list, and the fault of a place that has to be a data cell.
-- Source: this project.
-- Trust base.
use Rattle.std.specs.Prelude.{ℕ, ◌+◌, not, is_none, if◌then◌else◌, List, [], ◌∷◌, Option, None, Some}
use Rattle.std.specs.Option.{option_or}
use Rattle.terrain.specs.Raster.{Terrain, is_in_grid}
use Rattle.terrain.specs.Neighbours.{height_at}
use Rattle.terrain.specs.declared.place.Place.{Place}

-- The fault of the first entry with a fault, if any. The first entry of the list has this index.
abbrev pub first_fault : {X F : Type 0} → (ℕ → X → Option F) → ℕ → List X → Option F
first_fault fault_of index [] = None
first_fault fault_of index (x ∷ rest) =
    option_or (fault_of index x) (first_fault fault_of (index + 1) rest)

-- The fault of place p, which is entry `index` of its list: that it is outside the grid, or that it
-- has no data. `None` if p is a data cell.
abbrev pub place_fault : {F : Type 0} → (ℕ → F) → (ℕ → F) → Terrain → ℕ → Place → Option F
place_fault outside on_nodata t index p =
    if not (is_in_grid t.cols t.rows p) then Some (outside index)
    else if is_none (height_at t p) then Some (on_nodata index)
    else None
