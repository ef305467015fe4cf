use Rattle.std.proofs.Common.{◌≡◌, take, count_by}
use Rattle.flow.specs.Whole.{is_outlet_code}
use Rattle.flow.proofs.outlet_numbers.count_on.Given as goal

abbrev pub invariant-loop-index : goal.invariant-loop-index
invariant-loop-index l = l.count ≡ count_by is_outlet_code (take l.index l.codes)
