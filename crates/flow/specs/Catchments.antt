-- Catchments of gauges: each cell gets the number of the first gauge on its flow path. Also the
-- fault of a list of gauges, and which errors `catchments` may return.
-- Source: Jenson and Domingue (1988), watersheds of given cells.
-- Trust base.
use Rattle.std.specs.Prelude.{◌≡◌, ◌↔◌, ◌⊎◌, ℕ, ◌<◌, ◌==◌, nat_lt, if◌then◌else◌, false, List, length, map, Option, Some, None, unwrap_or, Result, Err}
use Rattle.std.specs.List.{filter, find, list_any, position_from, range_with_len}
use Rattle.std.specs.Option.{option_map_or}
use Rattle.terrain.specs.Raster.{Terrain}
use Rattle.terrain.specs.Neighbours.{is_place}
use Rattle.terrain.specs.Faults.{first_fault, place_fault}
use Rattle.terrain.specs.Sinks.{most_sinks}
use Rattle.terrain.specs.Ways.{places}
use Rattle.terrain.specs.declared.place.Place.{Place}
use Rattle.tile_jobs.specs.declared.TheConstants.{MOST_WORKERS}
use Rattle.tile_jobs.specs.declared.JobFault.TheVariants.{Memory, BadWorkers, NoThread}
use Rattle.drainage.specs.Following.{Directed, code_at, follow, moves}
use Rattle.flow.specs.Counts.{IsMapOf}
use Rattle.flow.specs.declared.gauges.GaugeFault.{GaugeFault}
use Rattle.flow.specs.declared.gauges.GaugeFault.TheVariants.{Outside, OnNodata, TooManyGauges, Jobs}

-- The position, from 1, of the first entry in the list that names the cell; 0 if none does.
abbrev pub gauge_number : List Place → Place → ℕ
gauge_number gauges p = unwrap_or (position_from (is_place p) 1 gauges) 0

-- The flow path of p, from p on. Where it ends, its last place is repeated until the list has as
-- many places as the grid has cells.
abbrev pub flow_path : Directed → Place → List Place
flow_path d p = map (follow d p) (range_with_len 0 (moves d))

-- The number of the first gauge on the flow path of p, which includes p; 0 if there is none.
abbrev pub catchment : Directed → List Place → Place → ℕ
catchment d gauges p =
    option_map_or (gauge_number gauges) (find (λ q. list_any (is_place q) gauges) (flow_path d p)) 0

-- The values are the catchments of the data cells, in row order; `None` at NODATA.
abbrev pub AreCatchments : Directed → List Place → List (Option ℕ) → Type 0
AreCatchments d gauges values = IsMapOf d (catchment d gauges) values

-- The outlets of a map of directions, in row order.
abbrev pub outlets : Directed → List Place
outlets d = filter (λ p. option_map_or (λ c. c == 0) (code_at d p) false) (places d.cols d.rows)

-- The fault of a list of gauges, if any: more entries than a list of sinks may have, repeats
-- counted; else the fault of the first gauge outside the grid or without data.
abbrev pub gauges_fault : Terrain → List Place → Option GaugeFault
gauges_fault t gauges =
    if nat_lt most_sinks (length gauges) then Some TooManyGauges
    else first_fault (place_fault Outside OnNodata t) 0 gauges

-- How catchments fail: with the gauges' fault if there is one. Otherwise with `BadWorkers`, exactly
-- for 0 or more than `MOST_WORKERS` workers, or for refused memory or, with several workers, for a
-- refused thread.
pub record RefusesGauges {T : Type 0} (fault : Option GaugeFault) (workers : ℕ)
    (result : Result T GaugeFault) : Type 0 where
  pub reported : (f : GaugeFault) → fault ≡ Some f → result ≡ Err f
  pub jobs : fault ≡ None → (f : GaugeFault) → result ≡ Err f →
      (f ≡ Jobs Memory) ⊎ (f ≡ Jobs BadWorkers) ⊎ (f ≡ Jobs NoThread)
  pub bad_workers : fault ≡ None →
      (result ≡ Err (Jobs BadWorkers)) ↔ ((workers ≡ 0) ⊎ (MOST_WORKERS < workers))
  pub no_thread : result ≡ Err (Jobs NoThread) → 1 < workers
