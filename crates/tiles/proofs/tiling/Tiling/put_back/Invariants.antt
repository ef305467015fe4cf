use Rattle.std.proofs.Common.{◌≡◌, ◌*◌}
use Rattle.tiles.specs.PuttingBack.{IsPutBackBelow}
use Rattle.tiles.proofs.tiling.Tiling.put_back.Given as goal

abbrev pub invariant-loop-row : goal.invariant-loop-row
invariant-loop-row g l = record {
  end : l.row-end ≡ l.self.rows;
  put : IsPutBackBelow l.self l.results (l.row * l.self.cols) l.whole.items;
}
