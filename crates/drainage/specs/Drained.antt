-- Directions with the filled heights and steps that make each flow path end. Source: this project.
-- Trust base.
use Rattle.std.specs.Prelude.{◌≡◌, ◌≢◌, ℕ, ◌*◌, ◌<◌, ◌⊎◌, ◌<ℤ◌, List, length, Option, Some, is_some}
use Rattle.terrain.specs.Raster.{Terrain}
use Rattle.terrain.specs.Neighbours.{height_at, entry_at, IsDataCell, height_of}
use Rattle.terrain.specs.Ways.{place_toward}
use Rattle.terrain.specs.declared.place.Place.{Place}
use Rattle.drainage.specs.Following.{Directed, code_at, FlowEnds}

-- A filled terrain, and the steps and the code of each cell, in row order.
pub record Drained : Type 0 where
  pub terrain : Terrain
  pub steps : List (Option ℕ)
  pub codes : List (Option ℕ)

-- The map of directions, without heights and steps.
abbrev pub directed_of : Drained → Directed
directed_of d = record { cols = d.terrain.cols; rows = d.terrain.rows; codes = d.codes }

-- For data cells: q is lower than p, or as high with fewer steps. If the steps of p or q are
-- unknown, equal height is enough. (A place without data counts as height 0 where q is lower, and
-- is as high as no data cell.)
abbrev pub Falls : Drained → Place → Place → Type 0
Falls d p q =
    (height_of d.terrain q <ℤ height_of d.terrain p)
    ⊎ ((height_at d.terrain q ≡ height_at d.terrain p)
    × ((m n : ℕ) → entry_at d.terrain.cols d.terrain.rows d.steps p ≡ Some m
    → entry_at d.terrain.cols d.terrain.rows d.steps q ≡ Some n → n < m))

-- The lists have the grid's size, and exactly the data cells have steps and codes. Each code but 0
-- leads to a data cell that is lower, or as high with fewer steps.
pub record IsDraining (d : Drained) : Type 0 where
  pub codes_size : length d.codes ≡ d.terrain.cols * d.terrain.rows
  pub steps_size : length d.steps ≡ d.terrain.cols * d.terrain.rows
  pub same_data : (p : Place) →
      is_some (code_at (directed_of d) p) ≡ is_some (height_at d.terrain p)
  pub same_steps : (p : Place) → is_some (entry_at d.terrain.cols d.terrain.rows d.steps p)
      ≡ is_some (height_at d.terrain p)
  pub leads : (p : Place) (code : ℕ) → code_at (directed_of d) p ≡ Some code → code ≢ 0 →
      (q : Place) × (place_toward code p ≡ Some q) × IsDataCell d.terrain q × Falls d p q

-- Every flow path ends at an outlet.
abbrev pub AllFlowEnds : Directed → Type 0
AllFlowEnds d = (p : Place) (code : ℕ) → code_at d p ≡ Some code → FlowEnds d p
