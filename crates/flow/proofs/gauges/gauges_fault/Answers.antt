use Rattle.std.proofs.Common.{Some, sym, ap, ◌∙◌}
use Rattle.std.specs.Prelude.{option_map}
use Rattle.flow.specs.CutCodes.{fault_of_gauge}
use Rattle.flow.proofs.GaugeFaults.{fault_of_sinks}
use Rattle.flow.proofs.gauges.gauges_fault.Goals as goal

pub returns-in-Some : goal.returns-in-Some
returns-in-Some c =
    ap Some c.fault_of_gauge.ensures ∙ ap (option_map fault_of_gauge) (sym c.in-Some.is ∙ c.sinks_fault.ensures)
    ∙ fault_of_sinks c.args.grid.now.terrain c.args.gauges.now

pub returns-in-None : goal.returns-in-None
returns-in-None c =
    ap (option_map fault_of_gauge) (sym c.in-None.is ∙ c.sinks_fault.ensures)
    ∙ fault_of_sinks c.args.grid.now.terrain c.args.gauges.now
