use Rattle.std.proofs.Common.{◌≡◌, drop}
use Rattle.terrain.specs.Faults.{first_fault, place_fault}
use Rattle.terrain.specs.declared.sinks.SinkFault.TheVariants.{Outside, OnNodata}
use Rattle.terrain.proofs.sinks.first_bad_sink.Given as goal

abbrev pub invariant-loop-index : goal.invariant-loop-index
invariant-loop-index l =
    let fault_of = place_fault Outside OnNodata l.grid.terrain in
    first_fault fault_of 0 l.sinks ≡ first_fault fault_of l.index (drop l.index l.sinks)
