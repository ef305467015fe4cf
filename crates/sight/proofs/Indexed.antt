-- Each index below the number of places of some bounds is that of one of the places.
use Rattle.std.proofs.Common.{arith, ◌*◌, ◌<◌, ◌≤◌, ℕ}
use Rattle.tiles.specs.declared.bounds.Bounds.{Bounds}
use Rattle.tiles.specs.Cutting.{IsInBounds, place_in}
use Rattle.tiles.proofs.TileOrder.{place_in_bounds}

pub place_inside : (b : Bounds) (k : ℕ) → k < b.rows * b.cols → IsInBounds b (place_in b k)
place_inside b k below = place_in_bounds b k (positive b.rows b.cols k below) below
  where
    positive : (r c k : ℕ) → k < r * c → 1 ≤ c
    positive r c k h = grind arith
