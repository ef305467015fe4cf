use Rattle.std.proofs.Common.{◌<◌, ℕ, ℤ, ◌≡◌, None, Some, slice_index_or}
use Rattle.terrain.specs.Raster.{IsHeight}
use Rattle.sightlines.specs.Blocks.{IsTopOf}
use Rattle.sight.proofs.tops.top_of.Given as goal

abbrev pub invariant-loop-index : goal.invariant-loop-index
invariant-loop-index l = record {
  height : (h : ℤ) → l.top ≡ Some h → IsHeight h;
  above : (i : ℕ) (h : ℤ) → i < l.index → slice_index_or l.cells i None ≡ Some h → IsTopOf l.top h;
}
