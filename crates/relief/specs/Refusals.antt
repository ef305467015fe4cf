-- Which fault a run may return: the first of these. A fault of the text, refused memory for its
-- cells, or a failed read; too many tiles; faulty sinks; faulty gauges, observers, target height or
-- radius; other refused memory or a refused thread; a failed write.
-- Trust base.
use Rattle.std.specs.Prelude.{◌≡◌, ℕ, ◌*◌, ◌<◌, nat_lt, ⊤, if◌then◌else◌, List, Option, None, Some, option_map}
use Rattle.std.specs.Int.{div_ceil}
use Rattle.std.specs.Option.{option_or}
use Rattle.terrain.specs.Raster.{Raster}
use Rattle.terrain.specs.Sinks.{sinks_fault}
use Rattle.ascii_grid.specs.GridText.{IsGridText, IsRefusal}
use Rattle.tiles.specs.Cutting.{most_tiles}
use Rattle.tiles.specs.declared.tiling.TilingFault.TheVariants.{TooManyTiles}
use Rattle.tile_jobs.specs.declared.JobFault.TheVariants as jobs
use Rattle.flow.specs.Catchments.{gauges_fault}
use Rattle.flow.specs.declared.gauges.GaugeFault.{GaugeFault}
use Rattle.sight.specs.declared.fault.SightFault.{SightFault}
use Rattle.sight.specs.Refusals.{observers_fault}
use Rattle.request.specs.declared.map.Map.{Map}
use Rattle.request.specs.declared.map.Map.TheVariants.{Catchments, View, Rise, Several}
use Rattle.relief.specs.declared.fault.RunFault.{RunFault}
use Rattle.relief.specs.declared.fault.RunFault.TheVariants.{Grid, Tiling, Jobs, Sight, Sinks, Gauges, Read, Write}
use Rattle.request.specs.Request.{Request}

-- The number of tiles into which a grid is cut, for tiles of side `side`.
abbrev pub tiles_of : Raster → ℕ → ℕ
tiles_of g side = div_ceil g.terrain.cols side * div_ceil g.terrain.rows side

-- The fault of observers, target height or radius of a viewshed, or of a rise, whose lowest target
-- has height 0; other maps have none.
abbrev pub view_fault : Raster → Map → Option SightFault
view_fault g (View observers target radius) =
    observers_fault g.terrain observers.items target radius
view_fault g (Rise observers radius) = observers_fault g.terrain observers.items 0 radius
view_fault g map = None

-- The fault of the gauges of catchments, or of several maps; other maps have none.
abbrev pub gauge_fault : Raster → Map → Option GaugeFault
gauge_fault g (Catchments gauges) = gauges_fault g.terrain gauges.items
gauge_fault g (Several maps gauges) = gauges_fault g.terrain gauges.items
gauge_fault g map = None

-- The fault of the sinks or, if they have none, of the gauges.
abbrev pub named_place_fault : Request → Raster → Option RunFault
named_place_fault w g =
    option_or (option_map Sinks (sinks_fault g.terrain w.sinks))
    (option_map Gauges (gauge_fault g w.map))

-- The fault that forbids the requested map of this grid, or `None`.
abbrev pub request_fault : Request → Raster → Option RunFault
request_fault w g =
    if nat_lt most_tiles (tiles_of g w.tile) then Some (Tiling TooManyTiles)
    else option_or (named_place_fault w g) (option_map Sight (view_fault g w.map))

-- A run on this grid may return this fault before it writes. If `request_fault` is `None`, the
-- fault is refused memory or, with several workers, a refused thread. If `request_fault` is `Some`,
-- its fault is the run's.
abbrev pub IsFaultOnGrid : Request → Raster → RunFault → Type 0
IsFaultOnGrid w g (Jobs jobs.Memory) = request_fault w g ≡ None
IsFaultOnGrid w g (Jobs jobs.NoThread) = (request_fault w g ≡ None) × (1 < w.workers)
IsFaultOnGrid w g fault = request_fault w g ≡ Some fault

-- A run may return this fault for this text. `Read` may come for each text, and `Grid` for the
-- text's first fault or for refused memory for its cells (`IsRefusal`). Any other fault may come
-- only if the text spells a grid.
abbrev pub IsFaultOnText : Request → List ℕ → RunFault → Type 0
IsFaultOnText w text (Grid fault) = IsRefusal w.scale text fault
IsFaultOnText w text Read = ⊤
IsFaultOnText w text Write = (g : Raster) × IsGridText w.scale text g × (request_fault w g ≡ None)
IsFaultOnText w text fault = (g : Raster) × IsGridText w.scale text g × IsFaultOnGrid w g fault
