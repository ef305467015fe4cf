use Rattle.std.proofs.Common.{◌≡◌, ℕ, length, Some, slice_get}
use Rattle.cell_floods.specs.TileFlood.{Flood, IsTileFlood}
use Rattle.map_tests.proofs.filling.floods_of.Given as goal

abbrev pub invariant-loop-tile : goal.invariant-loop-tile
invariant-loop-tile l = record {
  size : length l.floods.items ≡ l.tile;
  each : (k : ℕ) (f : Flood) → slice_get l.floods.items k ≡ Some f →
      IsTileFlood l.grid.terrain l.tiling k f;
}
