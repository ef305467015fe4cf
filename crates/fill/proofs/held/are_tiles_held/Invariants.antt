use Rattle.std.proofs.Common.{take}
use Rattle.fill.specs.Held.{AreHeldTiles}
use Rattle.fill.proofs.held.are_tiles_held.Given as goal

abbrev pub invariant-loop-runs : goal.invariant-loop-runs
invariant-loop-runs l = AreHeldTiles l.cols l.cells (take l.runs-index l.tiles)
