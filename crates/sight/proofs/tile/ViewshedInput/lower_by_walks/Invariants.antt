use Rattle.std.proofs.Common.{◌≡◌, ℕ, ◌<◌, ◌≤◌, get_or, None}
use Rattle.tiles.specs.Cutting.{place_in}
use Rattle.sight.specs.Lowered.{IsLowered}
use Rattle.sight.proofs.tile.ViewshedInput.lower_by_walks.Given as goal

abbrev pub invariant-loop-index : goal.invariant-loop-index
invariant-loop-index l = record {
  done : (k : ℕ) → k < l.index → IsLowered l.self.grid.now.terrain l.observer l.self.radius
      (place_in l.fn.bounds k) (get_or l.fn.values k None) (get_or l.values k None);
  left : (k : ℕ) → l.index ≤ k → get_or l.values k None ≡ get_or l.fn.values k None;
}
