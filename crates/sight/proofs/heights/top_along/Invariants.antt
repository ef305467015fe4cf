use Rattle.std.proofs.Common.{◌≡◌, ◌+◌, ◌*◌, ◌<◌, ◌≤◌, ℕ, ℤ, None, Some, get_or}
use Rattle.terrain.specs.Raster.{IsHeight}
use Rattle.sightlines.specs.Blocks.{IsTopOf}
use Rattle.sight.proofs.heights.top_along.Given as goal

abbrev pub invariant-loop-cell : goal.invariant-loop-cell
invariant-loop-cell l = record {
  tops : (c : ℕ) (h : ℤ) → l.fn.from ≤ c → c < l.cell
      → get_or l.cells (l.start + c * l.stride) None ≡ Some h → IsTopOf l.top h;
  height : (h : ℤ) → l.top ≡ Some h → IsHeight h;
}
