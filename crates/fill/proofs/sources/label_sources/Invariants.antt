use Rattle.std.proofs.Common.{◌≡◌, ◌*◌, length}
use Rattle.terrain.specs.Raster.{Terrain}
use Rattle.fill.specs.SpillGraph.{AreFloods}
use Rattle.fill.proofs.EndSources.{HaveEnds}
use Rattle.fill.proofs.sources.label_sources.Given as goal

abbrev pub invariant-loop-flood : goal.invariant-loop-flood
invariant-loop-flood l = record {
  size : length l.heights.items ≡ l.tiling.cols * l.tiling.rows;
  have : (t : Terrain) → AreFloods t l.tiling l.floods →
      HaveEnds t l.tiling l.floods l.flood-index l.heights.items;
}
