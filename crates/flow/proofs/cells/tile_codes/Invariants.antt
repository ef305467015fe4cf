use Rattle.std.proofs.Common.{◌≡◌, ℕ, ◌*◌, ◌<◌, length, get_or, None}
use Rattle.tiles.specs.Cutting.{bounds_of, place_in}
use Rattle.drainage.specs.Following.{code_at}
use Rattle.flow.specs.TileFlow.{directed_by}
use Rattle.flow.proofs.cells.tile_codes.Given as goal

abbrev pub invariant-loop-row : goal.invariant-loop-row
invariant-loop-row l = record {
  size : length l.cells.items ≡ l.row * (bounds_of l.codes.cutting l.codes.tile).cols;
  each : (i : ℕ) → i < l.row * (bounds_of l.codes.cutting l.codes.tile).cols → get_or l.cells.items i None ≡ code_at
      (directed_by l.codes) (place_in (bounds_of l.codes.cutting l.codes.tile) i);
}
