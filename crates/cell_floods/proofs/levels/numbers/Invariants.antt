use Rattle.std.proofs.Common.{◌≡◌, map, take}
use Rattle.floods.specs.Notes.{height_or_lack}
use Rattle.cell_floods.proofs.levels.numbers.Given as goal

abbrev pub invariant-loop-cell : goal.invariant-loop-cell
invariant-loop-cell l = l.numbers.items ≡ map height_or_lack (take l.cell-index l.cells)
