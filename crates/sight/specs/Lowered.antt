-- How one more observer lowers the rise of a place.
-- Private.
use Rattle.std.specs.Prelude.{◌≡◌, ℕ, ◌+◌, ◌<◌, ◌≤◌, Bool, true, false, ◌&&◌, nat_lt, if◌then◌else◌, List, length, Option, None, Some, unwrap_or, slice_index_or}
use Rattle.terrain.specs.Raster.{Terrain}
use Rattle.terrain.specs.declared.place.Place.{Place}
use Rattle.terrain.specs.declared.observer.Observer.{Observer}
use Rattle.tiles.specs.declared.bounds.Bounds.{Bounds}
use Rattle.tiles.specs.Cutting.{place_in}
use Rattle.sightlines.specs.Sight.{is_seen, highest_eye}

-- The heights below this one are those that would lower a value.
abbrev pub limit_of : Option ℕ → ℕ
limit_of value = unwrap_or value (highest_eye + 1)

-- The number is the least height below `limit` at which the observer sees the place, or `limit`.
pub record IsLeast (t : Terrain) (o : Observer) (radius : ℕ) (p : Place) (limit least : ℕ) :
    Type 0 where
  pub most : least ≤ limit
  pub seen : least < limit → is_seen t o p least radius ≡ true
  pub hidden : (h : ℕ) → h < least → is_seen t o p h radius ≡ false

-- The new value is the least height at which the observer sees the place if that is below the old
-- value; else it is the old value.
abbrev pub IsLowered : Terrain → Observer → ℕ → Place → Option ℕ → Option ℕ → Type 0
IsLowered t o radius p old new = (least : ℕ) × IsLeast t o radius p (limit_of old) least
    × (new ≡ (if nat_lt least (limit_of old) then Some least else old))

-- The value of a cell with a target at `height`: that height if the cell is flagged and the height
-- is below the old value; else the old value.
abbrev pub lowered_to : Bool → ℕ → Option ℕ → Option ℕ
lowered_to flag height value = if flag && nat_lt height (limit_of value) then Some height else value

-- No value is above the greatest height.
abbrev pub AreLow : List (Option ℕ) → Type 0
AreLow values = (k : ℕ) → limit_of (slice_index_or values k None) ≤ highest_eye + 1

-- Each value of a list in the row order of the bounds is lowered by one more observer.
abbrev pub AreLowered : Terrain → Observer → ℕ → Bounds → List (Option ℕ) → List (Option ℕ) → Type 0
AreLowered t o radius b old new = (k : ℕ) → k < length old → IsLowered t o radius (place_in b k)
    (slice_index_or old k None) (slice_index_or new k None)
