use Rattle.std.proofs.Common.{◌≡◌, ℕ, ◌<◌, length, get_or, None}
use Rattle.flow.specs.TileLinks.{IsInteriorMove}
use Rattle.flow.proofs.tile_links.set_interior_moves.Given as goal

abbrev pub invariant-loop-index : goal.invariant-loop-index
invariant-loop-index l = record {
  size : length l.moves ≡ length l.cells;
  each : (i : ℕ) → i < l.index → IsInteriorMove (get_or l.cells i None) (get_or l.moves i 0);
}
