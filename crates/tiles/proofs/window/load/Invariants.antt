use Rattle.std.proofs.Common.{◌+◌, ◌*◌}
use Rattle.tiles.specs.Windows.{AreSeenBelow}
use Rattle.tiles.proofs.window.load.Given as goal

abbrev pub invariant-loop-row : goal.invariant-loop-row
invariant-loop-row g l =
    AreSeenBelow l.view l.seen l.none l.bounds (l.row * (l.bounds.cols + 2)) l.values.items
