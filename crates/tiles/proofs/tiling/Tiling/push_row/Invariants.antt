use Rattle.std.proofs.Common.{◌≡◌, ◌*◌, ◌/◌}
use Rattle.tiles.specs.Cutting.{across}
use Rattle.tiles.specs.PuttingBack.{IsPutBackBelow}
use Rattle.tiles.proofs.PutBack.{crossed_length}
use Rattle.tiles.proofs.tiling.Tiling.push_row.Given as goal

abbrev pub invariant-loop-column : goal.invariant-loop-column
invariant-loop-column g l = record {
  first : l.first ≡ l.row / l.self.side * across l.self;
  end : l.column-end ≡ across l.self;
  crossed_length :
      IsPutBackBelow l.self l.results (crossed_length l.self l.row l.column) l.whole.items;
}
