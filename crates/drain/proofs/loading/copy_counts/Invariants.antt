use Rattle.std.proofs.Common.{◌*◌}
use Rattle.tile_maps.specs.Maps.{AreSetUpTo}
use Rattle.drain.specs.Search.{IsCopied}
use Rattle.drain.proofs.loading.copy_counts.Given as goal

abbrev pub invariant-loop-row : goal.invariant-loop-row
invariant-loop-row l =
    AreSetUpTo l.window.bounds (IsCopied l.window.bounds l.counts) (l.row * l.window.bounds.cols) l.list.items
