use Rattle.std.proofs.Common.{◌+◌, ◌*◌}
use Rattle.tile_maps.specs.Maps.{AreSetUpTo}
use Rattle.drain.specs.Search.{IsCopied}
use Rattle.drain.proofs.loading.copy_counts_along.Given as goal

abbrev pub invariant-loop-col : goal.invariant-loop-col
invariant-loop-col l =
    AreSetUpTo l.window.bounds (IsCopied l.window.bounds l.counts) (l.row * l.window.bounds.cols + l.col) l.list
