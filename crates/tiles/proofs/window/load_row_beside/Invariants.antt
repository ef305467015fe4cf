use Rattle.std.proofs.Common.{◌+◌, ◌*◌}
use Rattle.tiles.specs.Windows.{AreSeenBelow}
use Rattle.tiles.proofs.window.load_row_beside.Given as goal

abbrev pub invariant-loop-col : goal.invariant-loop-col
invariant-loop-col g l =
    AreSeenBelow l.view l.seen l.none l.bounds (l.row * (l.bounds.cols + 2) + l.col) l.list.items
