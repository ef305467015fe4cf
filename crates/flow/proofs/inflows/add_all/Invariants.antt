use Rattle.std.proofs.Common.{◌≡◌, ◌+◌, length, get_or}
use Rattle.terrain.specs.declared.place.Place.{Place}
use Rattle.tiles.specs.Cutting.{IsInBounds, bounds_of, index_in}
use Rattle.tile_jobs.specs.Sums.{sum_below}
use Rattle.flow.specs.Inflows.{adds}
use Rattle.flow.proofs.inflows.add_all.Given as goal

abbrev pub invariant-loop-side : goal.invariant-loop-side
invariant-loop-side l = record {
  size : length l.weights ≡ length l.initial.weights;
  each : (p : Place) → IsInBounds (bounds_of l.tiling l.tile) p →
      get_or l.weights (index_in (bounds_of l.tiling l.tile) p) 0 ≡ get_or l.initial.weights
      (index_in (bounds_of l.tiling l.tile) p) 0 + sum_below (λ k. adds l.tiling l.listed l.tile k p) l.side;
}
