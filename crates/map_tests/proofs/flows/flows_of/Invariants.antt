use Rattle.std.proofs.Common.{◌≡◌, ℕ, length, Some, slice_get}
use Rattle.drainage.specs.Drained.{directed_of}
use Rattle.flow.specs.TileFlow.{Flow, IsTileFlow}
use Rattle.map_tests.proofs.flows.flows_of.Given as goal

abbrev pub invariant-loop-tile : goal.invariant-loop-tile
invariant-loop-tile l = record {
  size : length l.flows.items ≡ l.tile;
  each : (k : ℕ) (f : Flow) → slice_get l.flows.items k ≡ Some f →
      IsTileFlow (directed_of l.ways) l.tiling k f;
}
