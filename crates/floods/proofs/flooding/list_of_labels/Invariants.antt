use Rattle.std.proofs.Common.{◌≡◌, map, take}
use Rattle.floods.specs.Notes.{label_of}
use Rattle.floods.proofs.flooding.list_of_labels.Given as goal

abbrev pub invariant-loop-number : goal.invariant-loop-number
invariant-loop-number l = l.list.items ≡ map label_of (take l.number-index l.numbers)
