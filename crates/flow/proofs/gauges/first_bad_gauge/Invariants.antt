use Rattle.std.proofs.Common.{◌≡◌, drop}
use Rattle.terrain.specs.Faults.{first_fault, place_fault}
use Rattle.flow.specs.declared.gauges.GaugeFault.TheVariants.{Outside, OnNodata}
use Rattle.flow.proofs.gauges.first_bad_gauge.Given as goal

abbrev pub invariant-loop-index : goal.invariant-loop-index
invariant-loop-index l =
    let fault_of = place_fault Outside OnNodata l.d.terrain in
    first_fault fault_of 0 l.gauges ≡ first_fault fault_of l.index (drop l.index l.gauges)
