-- The rise of a grid: the least height above the ground at which a target on each cell is seen.
-- Source: as for the line of sight, see `sightlines/specs/Sight`.
-- Trust base.
use Rattle.std.specs.Prelude.{◌≡◌, ℕ, ◌*◌, ◌<◌, ◌≤◌, Bool, true, false, List, length, Option, MatchOption}
use Rattle.std.specs.List.{list_any}
use Rattle.terrain.specs.Raster.{Terrain}
use Rattle.terrain.specs.Neighbours.{IsInside, entry_at}
use Rattle.terrain.specs.declared.place.Place.{Place}
use Rattle.terrain.specs.declared.observer.Observer.{Observer}
use Rattle.sightlines.specs.Sight.{is_seen, highest_eye}

-- At least one entry of the list of observers sees the target.
abbrev pub is_seen_by_any : Terrain → List Observer → Place → ℕ → ℕ → Bool
is_seen_by_any t observers q target radius = list_any (λ o. is_seen t o q target radius) observers

-- The value is the least target height, up to the greatest, at which an observer sees the place.
-- It is None if there is no such height, as on NODATA.
abbrev pub IsRiseAt : Terrain → List Observer → ℕ → Place → Option ℕ → Type 0
IsRiseAt t observers radius q value = MatchOption value
    ((h : ℕ) → h ≤ highest_eye → is_seen_by_any t observers q h radius ≡ false)
    (λ least. (least ≤ highest_eye) × (is_seen_by_any t observers q least radius ≡ true)
    × ((h : ℕ) → h < least → is_seen_by_any t observers q h radius ≡ false))

-- The list has each cell's least target height in row order.
pub record IsRise (t : Terrain) (observers : List Observer) (radius : ℕ)
    (values : List (Option ℕ)) : Type 0 where
  pub size : length values ≡ t.cols * t.rows
  pub each : (p : Place) → IsInside t p →
      IsRiseAt t observers radius p (entry_at t.cols t.rows values p)
