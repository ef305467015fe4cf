use Rattle.std.proofs.Common.{◌≡◌, drop}
use Rattle.terrain.specs.Faults.{first_fault}
use Rattle.sight.specs.Refusals.{observer_fault}
use Rattle.sight.proofs.judging.bad_place.Given as goal

abbrev pub invariant-loop-index : goal.invariant-loop-index
invariant-loop-index l =
    let fault_of = observer_fault l.grid.terrain in
    first_fault fault_of 0 l.observers ≡ first_fault fault_of l.index (drop l.index l.observers)
