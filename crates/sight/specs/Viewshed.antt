-- The viewshed of a grid: how many entries of a list of observers see each data cell. Source: as
-- for the line of sight, see `sightlines/specs/Sight`.
-- Trust base.
use Rattle.std.specs.Prelude.{◌≡◌, ℕ, ◌*◌, List, length, count_by, Option, None, Some, MatchOption}
use Rattle.terrain.specs.Raster.{Terrain}
use Rattle.terrain.specs.Neighbours.{IsInside, height_at, entry_at}
use Rattle.terrain.specs.declared.place.Place.{Place}
use Rattle.terrain.specs.declared.observer.Observer.{Observer}
use Rattle.sightlines.specs.Sight.{is_seen}

-- The most entries that a list of observers may have.
abbrev pub most_observers : ℕ
most_observers = 1024

-- The number of entries of the list of observers that see the cell.
abbrev pub viewshed_value : Terrain → List Observer → ℕ → ℕ → Place → ℕ
viewshed_value t observers target radius q = count_by (λ o. is_seen t o q target radius) observers

-- The list has each data cell's viewshed value in row order, and None for each NODATA cell.
pub record IsViewshed (t : Terrain) (observers : List Observer) (target radius : ℕ)
    (values : List (Option ℕ)) : Type 0 where
  pub size : length values ≡ t.cols * t.rows
  pub each : (p : Place) → IsInside t p →
      MatchOption (height_at t p) (entry_at t.cols t.rows values p ≡ None)
      (λ _. entry_at t.cols t.rows values p ≡ Some (viewshed_value t observers target radius p))
