use Rattle.std.proofs.Common.{◌≡◌, ℕ, nat_eq, take}
use Rattle.std.specs.HashMap as hash
use Rattle.flow.specs.CutCodes.{number_of_index}
use Rattle.flow.proofs.gauges.GaugeNumbers.of_gauges.Given as goal

abbrev pub invariant-loop-index : goal.invariant-loop-index
invariant-loop-index l = (i : ℕ) → hash.get nat_eq l.numbers i ≡ number_of_index l.tiling.cols (take l.index l.gauges) i
