use Rattle.std.proofs.Common.{◌≡◌, take}
use Rattle.floods.proofs.flooding.list_of_levels.Given as goal

abbrev pub invariant-loop-index : goal.invariant-loop-index
invariant-loop-index l = l.list.items ≡ take l.index l.levels
