use Rattle.std.proofs.Common.{◌≡◌, ◌<◌, ◌/◌, ℤ, Some}
use Rattle.terrain.specs.Neighbours.{height_at}
use Rattle.terrain.specs.Raster.{IsHeight}
use Rattle.terrain.specs.declared.place.Place.{Place}
use Rattle.sightlines.specs.Blocks.{IsTopOf}
use Rattle.sight.specs.BlockTops.{ground_of}
use Rattle.sight.proofs.tops.Blocks.top.Given as goal

abbrev pub invariant-loop-row : goal.invariant-loop-row
invariant-loop-row l = record {
  height : (h : ℤ) → l.top ≡ Some h → IsHeight h;
  above : (p : Place) (h : ℤ) → p.row / l.self.size ≡ l.fn.block.row → p.row < l.row →
      p.col / l.self.size ≡ l.fn.block.col
      → height_at (ground_of l.self.cols l.self.rows l.self.cells.now) p ≡ Some h → IsTopOf l.top h;
}
