use Rattle.std.proofs.Common.{◌≡◌, map, take}
use Rattle.terrain.specs.StoredCells.{cell_of}
use Rattle.fill.proofs.filling.cells_of.Given as goal

abbrev pub invariant-loop-height : goal.invariant-loop-height
invariant-loop-height l = l.cells.items ≡ map cell_of (take l.height-index l.heights)
