use Rattle.std.proofs.Common.{◌≡◌, map}
use Rattle.std.specs.List.{range_with_len}
use Rattle.flow.specs.Inflows.{rim_weight}
use Rattle.flow.proofs.inflows.rim_weights.Given as goal

abbrev pub invariant-loop-number : goal.invariant-loop-number
invariant-loop-number l = l.weights.items ≡ map (rim_weight l.tiling l.flows) (range_with_len 0 l.number)
