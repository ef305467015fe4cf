-- The graph of exits into other tiles. Each is linked to the next such exit on its flow path, and
-- the last to itself. Also the outlets of exits, found where paths along these links end. A rim
-- number is a rim cell's number among the rim cells of all tiles.
-- Public.
use Rattle.std.specs.Prelude.{◌≡◌, ℕ, ◌/◌, ◌%◌, ◌&&◌, ◌==◌, if◌then◌else◌, List, map, Option, None, Some, slice_get, slice_index, slice_index_or, unwrap_or, option_and_then}
use Rattle.std.specs.List.{range_with_len}
use Rattle.terrain.specs.Ways.{place_toward}
use Rattle.terrain.specs.declared.place.Place.{Place}
use Rattle.tiles.specs.declared.bounds.Bounds.{Bounds}
use Rattle.tiles.specs.Cutting.{Cutting, IsCutting, IsWithin, bounds_of, tile_of_place, is_in_bounds, entry_in}
use Rattle.drainage.specs.Following.{Directed, last_of}
use Rattle.drainage.specs.Drained.{AllFlowEnds}
use Rattle.terrain.specs.Neighbours.{is_place}
use Rattle.flow.specs.TileFlow.{Flow, exit_in, AreTileExits, IsExitCell}
use Rattle.flow.specs.Whole.{is_outlet_code}
use Rattle.tiles.specs.RimNumbers.{stride, side_number, side_place, rim_number_count, rim_number, rim_place}

-- One flow for each tile, with the tile's exits, in a map of directions whose flow paths all end.
pub record AreFlowsOf (d : Directed) (t : Cutting) (flows : List Flow) : Type 0 where
  pub cutting : IsCutting t
  pub ends : AllFlowEnds d
  pub of_tiles : AreTileExits d t flows

-- The code at a place, by its tile's flow.
abbrev pub code_in : Cutting → List Flow → Place → Option ℕ
code_in t flows p =
    option_and_then (λ f. entry_in f.bounds f.codes p) (slice_get flows (tile_of_place t p))

-- The exit of a place, by its tile's flow.
abbrev pub exit_by : Cutting → List Flow → Place → Option Place
exit_by t flows p = option_and_then (λ f. exit_in f p) (slice_get flows (tile_of_place t p))

-- The cell of a tile with this side number, a rim cell's number in its tile, if there is one.
abbrev pub side_cell : Bounds → Bounds → ℕ → Option Place
side_cell largest b side =
    let p = side_place largest b side in
    if is_in_bounds b p && side_number largest b p == side then Some p else None

-- The next place downstream, by the flow's codes; the place itself if there is none.
abbrev pub next_in : Flow → Place → Place
next_in f p =
    unwrap_or (option_and_then (λ code. place_toward code p) (entry_in f.bounds f.codes p)) p

-- The place outside its tile that the cell of this side number flows into, if any.
abbrev pub target_in : Bounds → Flow → ℕ → Option Place
target_in largest f side =
    option_and_then (λ p. if is_in_bounds f.bounds (next_in f p) then None else Some (next_in f p))
    (side_cell largest f.bounds side)

abbrev pub target_by : Cutting → List Flow → ℕ → Option Place
target_by t flows i =
    let largest = bounds_of t 0 in
    option_and_then (λ f. target_in largest f (i % stride largest))
    (slice_get flows (i / stride largest))

abbrev pub first_targets : Cutting → List Flow → ℕ → List (Option Place)
first_targets t flows count = map (target_by t flows) (range_with_len 0 count)

abbrev pub targets_by : Cutting → List Flow → List (Option Place)
targets_by t flows = first_targets t flows (rim_number_count t)

-- The exit by which the water of a place leaves the tile; `None` if it does not leave.
abbrev pub next_exit_in : Flow → Place → Option Place
next_exit_in f p = option_and_then
    (λ e. if is_outlet_code (entry_in f.bounds f.codes e) then None else Some e) (exit_in f p)

abbrev pub next_exit_by : Cutting → List Flow → Place → Option Place
next_exit_by t flows p =
    option_and_then (λ f. next_exit_in f p) (slice_get flows (tile_of_place t p))

-- The rim number of the given exit; i if none is given.
abbrev pub number_or : Cutting → ℕ → Option Place → ℕ
number_or t i None = i
number_or t i (Some e) = rim_number t e

abbrev pub rim_link : Cutting → List Flow → ℕ → ℕ
rim_link t flows i =
    number_or t i (option_and_then (λ q. next_exit_by t flows q) (target_by t flows i))

abbrev pub rim_links_by : Cutting → List Flow → List ℕ
rim_links_by t flows = map (rim_link t flows) (range_with_len 0 (rim_number_count t))

-- The outlet of the water that leaves its tile at rim number i; `None` if no water leaves there.
-- `ends` has the ends of paths along rim links.
abbrev pub rim_outlet : Cutting → List Flow → List ℕ → ℕ → Option Place
rim_outlet t flows ends i = option_and_then
    (λ _. option_and_then (λ q. exit_by t flows q) (target_by t flows (slice_index ends i)))
    (target_by t flows i)

abbrev pub rim_outlets_by : Cutting → List Flow → List ℕ → List (Option Place)
rim_outlets_by t flows ends = map (rim_outlet t flows ends) (range_with_len 0 (rim_number_count t))

-- The outlet found for p: p itself if p is an outlet. Otherwise, for p on the rim, the outlet
-- listed for p's rim number, if any.
abbrev pub outlet_by : Cutting → List Flow → List (Option Place) → Place → Option Place
outlet_by t flows outlets p =
    if is_outlet_code (code_in t flows p) then Some p
    else if is_place (rim_place t (rim_number t p)) p
    then slice_index_or outlets (rim_number t p) None
    else None

-- The outlets of exits into other tiles, by rim number.
pub record Outlets : Type 0 where
  pub cutting : Cutting
  pub listed : List (Option Place)

abbrev pub listed_outlet : Outlets → List Flow → Place → Option Place
listed_outlet o flows p = outlet_by o.cutting flows o.listed p

-- Each exit has its outlet, and no other place of the grid has an outlet.
pub record AreOutlets (d : Directed) (t : Cutting) (flows : List Flow) (o : Outlets) : Type 0 where
  pub outlets : (p : Place) → IsExitCell d t p → listed_outlet o flows p ≡ Some (last_of d p)
  pub no_outlets : (p : Place) → IsWithin t p → (IsExitCell d t p → ⊥) →
      listed_outlet o flows p ≡ None
