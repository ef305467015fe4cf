-- A requested map with its options, and their limits.
-- Trust base.
use Rattle.std.specs.Prelude.{◌≡◌, ℕ, ◌≤◌, ⊤, Bool, List, []}
use Rattle.terrain.specs.declared.place.Place.{Place}
use Rattle.request.specs.declared.map.Map.{Map}
use Rattle.request.specs.declared.map.Map.TheVariants.{View, Rise}

-- A map, the side of tiles in cells, the number of workers, the scale, the named sinks, and whether
-- progress is reported.
pub record Request : Type 0 where
  pub map : Map
  pub tile : ℕ
  pub workers : ℕ
  pub scale : ℕ
  pub sinks : List Place
  pub progress : Bool

-- The side of tiles, the number of workers and the scale are within their limits.
abbrev pub AreLimits : ℕ → ℕ → ℕ → Type 0
AreLimits tile workers scale =
    (1 ≤ tile) × (tile ≤ 4096) × (1 ≤ workers) × (workers ≤ 64) × (scale ≤ 6)

-- The map is a viewshed or a rise.
abbrev pub IsSightMap : Map → Type 0
IsSightMap (View observers target radius) = ⊤
IsSightMap (Rise observers radius) = ⊤
IsSightMap map = ⊥

-- Tile side, workers and scale are within their limits. A viewshed and a rise have no sinks.
pub record IsRequest (w : Request) : Type 0 where
  pub in_limits : AreLimits w.tile w.workers w.scale
  pub view : IsSightMap w.map → w.sinks ≡ []
