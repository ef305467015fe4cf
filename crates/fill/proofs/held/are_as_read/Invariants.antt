use Rattle.std.proofs.Common.{take}
use Rattle.fill.specs.Held.{AreAsRead}
use Rattle.fill.proofs.held.are_as_read.Given as goal

abbrev pub invariant-loop-place : goal.invariant-loop-place
invariant-loop-place l = AreAsRead l.tiling.cols l.read l.cells (take l.place-index l.places)
