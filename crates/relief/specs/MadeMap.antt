-- A grid with the requested sinks, if any, in place of its own (`grid_with_sinks`), the text of a
-- finished map (`made_text`) or of one of several (`layer_text`), and that its codes or counts are
-- as many as the grid's cells (`FitsGrid`). Faults of jobs (`IsOfJobs`).
-- Private.
use Rattle.std.specs.Prelude.{◌≡◌, ◌⊎◌, ℕ, ◌*◌, ◌<◌, ⊤, List, [], ◌∷◌, length, Option, Some, Contains, IfSome, Vec}
use Rattle.std.specs.List.{flat_map}
use Rattle.std.specs.Option.{option_map_or}
use Rattle.std.specs.declared.alloc.Global.{Global}
use Rattle.terrain.specs.Raster.{Raster, Terrain}
use Rattle.terrain.specs.Sinks.{raster_with_sinks}
use Rattle.terrain.specs.declared.place.Place.{Place}
use Rattle.ascii_grid.specs.Text.{heights_text, counts_text}
use Rattle.tile_jobs.specs.declared.TheConstants.{MOST_WORKERS}
use Rattle.tile_jobs.specs.declared.JobFault.TheVariants as jobs
use Rattle.drainage.specs.Following.{Directed}
use Rattle.drainage.specs.Drained.{Drained, directed_of}
use Rattle.flow.specs.Counts.{AreAccumulations, AreBasins}
use Rattle.flow.specs.Catchments.{AreCatchments}
use Rattle.request.specs.declared.map.DrainageMap.{DrainageMap}
use Rattle.request.specs.declared.map.DrainageMap.TheVariants as drainage
use Rattle.relief.specs.declared.fault.RunFault.{RunFault}
use Rattle.relief.specs.declared.fault.RunFault.TheVariants.{Jobs}
use Rattle.relief.specs.MapText.{IsDrainageText}
use Rattle.relief.specs.declared.several.MadeMaps.{MadeMaps}
use Rattle.relief.specs.declared.several.MapHeader.{MapHeader}
use Rattle.relief.specs.declared.several.MapHeader.TheVariants.{WithHeights, Alone}
use Rattle.relief.specs.declared.making.MadeMap.{MadeMap}
use Rattle.relief.specs.declared.making.MadeMap.TheVariants.{Heights, Codes, Counts, Several}

-- The grid `g` with these sinks, each once, in place of the sinks of `g`. For an empty list, `g`
-- with the sinks that it has.
abbrev pub grid_with_sinks : List Place → Raster → Raster
grid_with_sinks [] g = g
grid_with_sinks (p ∷ rest) g = raster_with_sinks g (p ∷ rest)

-- The grid whose header the maps share.
abbrev pub header_grid : MapHeader → Raster
header_grid (WithHeights g) = g
header_grid (Alone g) = g

-- The text of a list of counts with the header of `g`; nothing if there is no list.
abbrev pub counts_text_if : Raster → Option (Vec (Option ℕ) Global) → List ℕ
counts_text_if g counts = option_map_or (λ values. counts_text g values.items) counts []

-- The text of the filled heights, if they were kept.
abbrev pub heights_text_if : MapHeader → List ℕ
heights_text_if (WithHeights g) = heights_text g
heights_text_if (Alone g) = []

-- The text of one of several finished maps; nothing if it was not made.
abbrev pub layer_text : MadeMaps → DrainageMap → List ℕ
layer_text made drainage.Fill = heights_text_if made.header
layer_text made drainage.Flow =
    option_map_or (λ directions. counts_text (header_grid made.header) directions.codes)
    made.directions []
layer_text made drainage.Accumulate = counts_text_if (header_grid made.header) made.accumulation
layer_text made drainage.Basins = counts_text_if (header_grid made.header) made.basins
layer_text made drainage.Catchments = counts_text_if (header_grid made.header) made.catchments

-- The list, if there is one, has one entry for each cell of the terrain.
abbrev pub FitsIf : Terrain → Option (Vec (Option ℕ) Global) → Type 0
FitsIf t counts = IfSome counts (λ values. length values.items ≡ t.cols * t.rows)

-- Codes and counts of several maps have one entry for each cell of the grid.
pub record FitHeader (made : MadeMaps) : Type 0 where
  pub directions : IfSome made.directions (λ d. length d.codes
      ≡ (header_grid made.header).terrain.cols * (header_grid made.header).terrain.rows)
  pub accumulation : FitsIf (header_grid made.header).terrain made.accumulation
  pub basins : FitsIf (header_grid made.header).terrain made.basins
  pub catchments : FitsIf (header_grid made.header).terrain made.catchments

-- The counts are there, and are accumulation, basins or catchments of these directions, as `map`
-- says. Filled heights and directions have no counts.
abbrev pub HasCounts : Directed → List Place → DrainageMap → Option (Vec (Option ℕ) Global) → Type 0
HasCounts d gauges drainage.Fill counts = ⊤
HasCounts d gauges drainage.Flow counts = ⊤
HasCounts d gauges drainage.Accumulate counts =
    (values : Vec (Option ℕ) Global) × (counts ≡ Some values) × AreAccumulations d values.items
HasCounts d gauges drainage.Basins counts =
    (values : Vec (Option ℕ) Global) × (counts ≡ Some values) × AreBasins d values.items
HasCounts d gauges drainage.Catchments counts =
    (values : Vec (Option ℕ) Global) × (counts ≡ Some values) × AreCatchments d gauges values.items

-- The maps have this header, and each requested map of these directions.
pub record AreFrom (shared : MapHeader) (d : Drained) (gauges : List Place)
    (maps : List DrainageMap) (made : MadeMaps) : Type 0 where
  pub header : made.header ≡ shared
  pub flow : Contains maps drainage.Flow → made.directions ≡ Some d
  pub accumulation : Contains maps drainage.Accumulate →
      HasCounts (directed_of d) gauges drainage.Accumulate made.accumulation
  pub basins : Contains maps drainage.Basins →
      HasCounts (directed_of d) gauges drainage.Basins made.basins
  pub catchments : Contains maps drainage.Catchments →
      HasCounts (directed_of d) gauges drainage.Catchments made.catchments

-- Each requested map of the grid is made.
abbrev pub AreMade : Raster → List Place → List DrainageMap → MadeMaps → Type 0
AreMade g gauges maps made = (map : DrainageMap) → Contains maps map →
    IsDrainageText g gauges map (layer_text made map)

-- Jobs of so many workers may end with this fault.
abbrev pub IsOfJobs : ℕ → RunFault → Type 0
IsOfJobs workers (Jobs jobs.Memory) = ⊤
IsOfJobs workers (Jobs jobs.BadWorkers) = (workers ≡ 0) ⊎ (MOST_WORKERS < workers)
IsOfJobs workers (Jobs jobs.NoThread) = 1 < workers
IsOfJobs workers fault = ⊥

-- The text that is written for a finished map.
abbrev pub made_text : MadeMap → List ℕ
made_text (Heights g) = heights_text g
made_text (Codes g directions) = counts_text g directions.codes
made_text (Counts g values) = counts_text g values.items
made_text (Several maps made) = flat_map (layer_text made) maps.now

-- Codes and counts have one entry for each cell of the grid.
abbrev pub FitsGrid : MadeMap → Type 0
FitsGrid (Heights g) = ⊤
FitsGrid (Codes g directions) = length directions.codes ≡ g.terrain.cols * g.terrain.rows
FitsGrid (Counts g values) = length values.items ≡ g.terrain.cols * g.terrain.rows
FitsGrid (Several maps made) = FitHeader made
