-- The number, the line and the exit status of each fault.
-- Trust base.
use Rattle.std.specs.Prelude.{ℕ, ◌==◌, ◌||◌, if◌then◌else◌, List, [], ◌++◌, Option, None, Some, codes, decimal}
use Rattle.std.specs.Option.{option_map_or}
use Rattle.ascii_grid.specs.declared.fault.Key.{Key}
use Rattle.ascii_grid.specs.declared.fault.Key.TheVariants.{Ncols, Nrows, Xll, Yll, Cellsize, Nodata}
use Rattle.ascii_grid.specs.declared.fault.GridFault.{GridFault}
use Rattle.ascii_grid.specs.declared.fault.GridFault.TheVariants as grid
use Rattle.tiles.specs.declared.tiling.TilingFault.{TilingFault}
use Rattle.tiles.specs.declared.tiling.TilingFault.TheVariants as tiling
use Rattle.tile_jobs.specs.declared.JobFault.{JobFault}
use Rattle.tile_jobs.specs.declared.JobFault.TheVariants as jobs
use Rattle.sight.specs.declared.fault.SightFault.{SightFault}
use Rattle.sight.specs.declared.fault.SightFault.TheVariants as sight
use Rattle.terrain.specs.declared.sinks.SinkFault.{SinkFault}
use Rattle.terrain.specs.declared.sinks.SinkFault.TheVariants as sinks
use Rattle.relief.specs.declared.fault.RunFault.{RunFault}
use Rattle.flow.specs.declared.gauges.GaugeFault.{GaugeFault}
use Rattle.flow.specs.declared.gauges.GaugeFault.TheVariants as gauges
use Rattle.relief.specs.declared.fault.RunFault.TheVariants.{Grid, Tiling, Jobs, Sight, Sinks, Gauges, Read, Write}
use Rattle.relief.specs.declared.fault.Detail.{Detail}
use Rattle.relief.specs.declared.fault.Detail.TheVariants.{Slot, Count}

-- The name of a header slot in the line of a fault. A key gives the value of its slot;
-- `xllcorner` and `xllcenter` both give that of `xll`.
abbrev pub slot_text : Key → List ℕ
slot_text Ncols = codes "ncols"
slot_text Nrows = codes "nrows"
slot_text Xll = codes "xll"
slot_text Yll = codes "yll"
slot_text Cellsize = codes "cellsize"
slot_text Nodata = codes "nodata"

-- A detail as text: the name of a header slot or a decimal number.
abbrev pub detail_text : Detail → List ℕ
detail_text (Slot key) = slot_text key
detail_text (Count n) = decimal n

-- The parts of a fault's line: number, name and, for some faults, the text of a detail.
pub record FaultParts : Type 0 where
  pub number : ℕ
  pub name : List ℕ
  pub detail : Option (List ℕ)

-- The parts of the line for a fault without a detail.
abbrev pub plain : ℕ → List ℕ → FaultParts
plain number name = record { number = number; name = name; detail = None }

-- The parts of the line for a fault with a detail.
abbrev pub detailed : ℕ → List ℕ → List ℕ → FaultParts
detailed number name detail = record { number = number; name = name; detail = Some detail }

-- The parts of the line for faults of the grid text.
abbrev pub grid_fault_parts : GridFault → FaultParts
grid_fault_parts grid.UnknownKey = plain 1 (codes "UnknownKey")
grid_fault_parts (grid.RepeatedKey slot) = detailed 2 (codes "RepeatedKey") (slot_text slot)
grid_fault_parts (grid.MissingKey slot) = detailed 3 (codes "MissingKey") (slot_text slot)
grid_fault_parts (grid.BadSize slot) = detailed 4 (codes "BadSize") (slot_text slot)
grid_fault_parts (grid.BadPlace slot) = detailed 5 (codes "BadPlace") (slot_text slot)
grid_fault_parts grid.BadNodata = plain 6 (codes "BadNodata")
grid_fault_parts (grid.BadHeight place) = detailed 7 (codes "BadHeight") (decimal place)
grid_fault_parts (grid.TooFew heights) = detailed 8 (codes "TooFew") (decimal heights)
grid_fault_parts grid.TooMany = plain 9 (codes "TooMany")
grid_fault_parts (grid.NoValue slot) = detailed 10 (codes "NoValue") (slot_text slot)
grid_fault_parts grid.TooLong = plain 11 (codes "TooLong")
grid_fault_parts grid.Memory = plain 12 (codes "Memory")

-- The parts of the line for faults of the tiling.
abbrev pub tiling_fault_parts : TilingFault → FaultParts
tiling_fault_parts tiling.BadSide = plain 21 (codes "BadSide")
tiling_fault_parts tiling.TooManyTiles = plain 22 (codes "TooManyTiles")

-- The parts of the line for faults of memory, workers and threads.
abbrev pub jobs_fault_parts : JobFault → FaultParts
jobs_fault_parts jobs.Memory = plain 12 (codes "Memory")
jobs_fault_parts jobs.BadWorkers = plain 31 (codes "BadWorkers")
jobs_fault_parts jobs.NoThread = plain 32 (codes "NoThread")

-- The parts of the line for faults of a viewshed.
abbrev pub sight_fault_parts : SightFault → FaultParts
sight_fault_parts (sight.Outside i) = detailed 41 (codes "Outside") (decimal i)
sight_fault_parts (sight.OnNodata i) = detailed 42 (codes "OnNodata") (decimal i)
sight_fault_parts sight.TooManyObservers = plain 43 (codes "TooManyObservers")
sight_fault_parts (sight.BadEye None) = plain 44 (codes "BadEye")
sight_fault_parts (sight.BadEye (Some i)) = detailed 44 (codes "BadEye") (decimal i)
sight_fault_parts sight.BadRadius = plain 45 (codes "BadRadius")
sight_fault_parts (sight.Jobs fault) = jobs_fault_parts fault

-- The parts of the line for faults of named sinks.
abbrev pub sinks_fault_parts : SinkFault → FaultParts
sinks_fault_parts (sinks.Outside i) = detailed 46 (codes "SinkOutside") (decimal i)
sinks_fault_parts (sinks.OnNodata i) = detailed 47 (codes "SinkOnNodata") (decimal i)
sinks_fault_parts sinks.TooManySinks = plain 48 (codes "TooManySinks")
sinks_fault_parts sinks.Memory = jobs_fault_parts jobs.Memory

-- The parts of the line for faults of gauges.
abbrev pub gauges_fault_parts : GaugeFault → FaultParts
gauges_fault_parts (gauges.Outside i) = detailed 61 (codes "GaugeOutside") (decimal i)
gauges_fault_parts (gauges.OnNodata i) = detailed 62 (codes "GaugeOnNodata") (decimal i)
gauges_fault_parts gauges.TooManyGauges = plain 63 (codes "TooManyGauges")
gauges_fault_parts (gauges.Jobs fault) = jobs_fault_parts fault

-- The parts of the line for each fault of a run.
abbrev pub fault_parts : RunFault → FaultParts
fault_parts (Grid fault) = grid_fault_parts fault
fault_parts (Tiling fault) = tiling_fault_parts fault
fault_parts (Jobs fault) = jobs_fault_parts fault
fault_parts (Sight fault) = sight_fault_parts fault
fault_parts (Sinks fault) = sinks_fault_parts fault
fault_parts (Gauges fault) = gauges_fault_parts fault
fault_parts Read = plain 51 (codes "Read")
fault_parts Write = plain 52 (codes "Write")

-- The line of a fault: `relief: NUMBER NAME`, a space and the detail if there is one, a line feed.
abbrev pub fault_line : RunFault → List ℕ
fault_line fault =
    let t = fault_parts fault in
    codes "relief: " ++ decimal t.number ++ codes " " ++ t.name
    ++ option_map_or (λ d. codes " " ++ d) t.detail [] ++ codes "\n"

-- The exit status for a fault's number: 3 if memory or a thread was refused, 4 if a device failed,
-- otherwise 2.
abbrev pub status_of : ℕ → ℕ
status_of number =
    if number == 12 || number == 32 then 3 else if number == 51 || number == 52 then 4 else 2

-- The exit status of a fault.
abbrev pub fault_status : RunFault → ℕ
fault_status fault = status_of (fault_parts fault).number
