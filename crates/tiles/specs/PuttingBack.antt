-- Defines what `Tiling::put_back` has taken from the tiles' lists so far: entries for the grid's
-- first places, and for one row of one tile.
-- Source: this project.
-- Private.
use Rattle.std.specs.Prelude.{◌≡◌, ℕ, ◌+◌, ◌-◌, ◌<◌, ◌≤◌, List, length, slice_get, Vec}
use Rattle.std.specs.declared.alloc.Global.{Global}
use Rattle.terrain.specs.Neighbours.{index_of}
use Rattle.terrain.specs.declared.place.Place.{Place}
use Rattle.tiles.specs.Cutting.{Cutting, IsWithin, bounds_of, listed_at}

-- `whole` has the entries for the grid's first n places, each from the list of the place's tile.
pub record IsPutBackBelow {X : Type 0} (t : Cutting) (lists : List (Vec X Global)) (n : ℕ)
    (whole : List X) : Type 0 where
  pub size : length whole ≡ n
  pub each : (p : Place) → IsWithin t p → index_of t.cols p < n →
      slice_get whole (index_of t.cols p) ≡ listed_at t lists p

-- `part` has the entries of the list of tile `tile` for the tile's places in row `row` of the grid.
pub record IsRowOf {X : Type 0} (t : Cutting) (lists : List (Vec X Global)) (tile row : ℕ)
    (part : List X) : Type 0 where
  pub size : length part ≡ (bounds_of t tile).cols
  pub each : (p : Place) → IsWithin t p → p.row ≡ row → (bounds_of t tile).left ≤ p.col →
      p.col < (bounds_of t tile).left + (bounds_of t tile).cols →
      slice_get part (p.col - (bounds_of t tile).left) ≡ listed_at t lists p
