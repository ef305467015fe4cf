-- The viewshed value of one place, and how the value grows from observer to observer.
-- Private.
use Rattle.std.specs.Prelude.{◌≡◌, ℕ, ◌+◌, ◌≤◌, Bool, if◌then◌else◌, List, Option, None, Some, option_map, IsTrue, is_none, slice_index_or}
use Rattle.terrain.specs.Raster.{Terrain}
use Rattle.terrain.specs.Neighbours.{height_at}
use Rattle.terrain.specs.declared.place.Place.{Place}
use Rattle.sight.specs.Viewshed.{viewshed_value}
use Rattle.sight.specs.Refusals.{observers_fault}
use Rattle.terrain.specs.declared.observer.Observer.{Observer}

-- The viewshed value of a data cell, or None for NODATA.
abbrev pub value_at : Terrain → List Observer → ℕ → ℕ → Place → Option ℕ
value_at t observers target radius p =
    option_map (λ _. viewshed_value t observers target radius p) (height_at t p)

-- The entry is the viewshed value of place p, or None if p is NODATA.
abbrev pub HasValue : Terrain → List Observer → ℕ → ℕ → Place → Option ℕ → Type 0
HasValue t observers target radius p entry = entry ≡ value_at t observers target radius p

-- A cell's value after one more observer: 1 is added if this observer sees the cell.
abbrev pub counted : Option ℕ → Bool → Option ℕ
counted value is_seen = if is_seen then option_map (λ n. n + 1) value else value

-- No value is above `most`.
abbrev pub AreAtMost : ℕ → List (Option ℕ) → Type 0
AreAtMost most values = (k n : ℕ) → slice_index_or values k None ≡ Some n → n ≤ most

-- Observers, target height and radius have no fault.
abbrev pub IsFaultless : Terrain → List Observer → ℕ → ℕ → Type 0
IsFaultless t observers target radius = IsTrue (is_none (observers_fault t observers target radius))
