use Rattle.std.proofs.Common.{◌+◌, ◌*◌}
use Rattle.drain.specs.Counts.{IsCheckedCode}
use Rattle.tile_maps.specs.Maps.{AreSetUpTo}
use Rattle.drain.proofs.codes.CountedWindow.codes_along.Given as goal

abbrev pub invariant-loop-col : goal.invariant-loop-col
invariant-loop-col l = AreSetUpTo l.self.bounds (IsCheckedCode l.self.terrain l.self.all)
    (l.row * l.self.bounds.cols + l.col) l.codes
