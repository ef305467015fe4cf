use Rattle.std.proofs.Common.{◌≡◌, take}
use Rattle.fill.specs.Numbers.{ends_of}
use Rattle.fill.proofs.numbers.label_ends.Given as goal

abbrev pub invariant-loop-flood : goal.invariant-loop-flood
invariant-loop-flood l = l.ends.items ≡ ends_of (take l.flood-index l.floods)
