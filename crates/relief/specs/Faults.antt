-- How faults of reading, viewsheds, sinks and gauges become faults of a run.
-- Public.
use Rattle.ascii_grid.specs.declared.input.InputFault.{InputFault}
use Rattle.ascii_grid.specs.declared.input.InputFault.TheVariants as input
use Rattle.sight.specs.declared.fault.SightFault.{SightFault}
use Rattle.sight.specs.declared.fault.SightFault.TheVariants as sight
use Rattle.terrain.specs.declared.sinks.SinkFault.{SinkFault}
use Rattle.terrain.specs.declared.sinks.SinkFault.TheVariants as sinks
use Rattle.flow.specs.declared.gauges.GaugeFault.{GaugeFault}
use Rattle.flow.specs.declared.gauges.GaugeFault.TheVariants as gauges
use Rattle.tile_jobs.specs.declared.JobFault.TheVariants as jobs
use Rattle.relief.specs.declared.fault.RunFault.{RunFault}
use Rattle.relief.specs.declared.fault.RunFault.TheVariants.{Grid, Jobs, Sight, Sinks, Gauges, Read}

-- A fault of the text, or refused memory for its cells, becomes `Grid`; a failed read, `Read`.
abbrev pub of_input : InputFault → RunFault
of_input (input.Grid fault) = Grid fault
of_input input.Read = Read

-- A fault of jobs becomes `Jobs`; all other faults of a viewshed become `Sight`.
abbrev pub of_sight : SightFault → RunFault
of_sight (sight.Jobs fault) = Jobs fault
of_sight fault = Sight fault

-- Refused memory becomes that of `Jobs`; all other faults of sinks become `Sinks`.
abbrev pub of_sinks : SinkFault → RunFault
of_sinks sinks.Memory = Jobs jobs.Memory
of_sinks fault = Sinks fault

-- A fault of jobs becomes `Jobs`; all other faults of gauges become `Gauges`.
abbrev pub of_gauges : GaugeFault → RunFault
of_gauges (gauges.Jobs fault) = Jobs fault
of_gauges fault = Gauges fault
