-- Inflow: how many cells' flow paths enter each rim cell from another tile.
-- A rim number is a rim cell's number among the rim cells of all tiles.
-- Public.
use Rattle.std.specs.Prelude.{◌≡◌, ℕ, ◌+◌, ◌*◌, ◌<◌, ◌==◌, if◌then◌else◌, List, map, length, Option, None, Some, slice_get, slice_index, slice_index_or, unwrap_or, option_and_then}
use Rattle.std.specs.List.{range_with_len}
use Rattle.terrain.specs.declared.place.Place.{Place}
use Rattle.tiles.specs.Cutting.{Cutting, IsWithin, bounds_of, tile_of_place}
use Rattle.drainage.specs.Following.{Directed}
use Rattle.terrain.specs.Neighbours.{is_place}
use Rattle.tile_jobs.specs.Sums.{sum_below}
use Rattle.flow.specs.TileFlow.{Flow, through_in, inflow_of}
use Rattle.tiles.specs.RimNumbers.{stride, rim_number_count, rim_number, rim_place}
use Rattle.flow.specs.RimGraph.{side_cell, target_by}

-- How many other cells' flow paths reach a place without leaving its tile, by the tile's flow.
abbrev pub through_by : Cutting → List Flow → Place → Option ℕ
through_by t flows p = option_and_then (λ f. through_in f p) (slice_get flows (tile_of_place t p))

-- How many cells' flow paths first leave their own tile at one cell: 1 for the cell itself, plus
-- `through`, its count in the tile. It is 0 if the cell flows into no other tile (has no target).
abbrev pub weight_or : Option ℕ → Option Place → ℕ
weight_or through None = 0
weight_or through (Some entry) = unwrap_or through 0 + 1

abbrev pub rim_weight : Cutting → List Flow → ℕ → ℕ
rim_weight t flows i = weight_or (through_by t flows (rim_place t i)) (target_by t flows i)

abbrev pub rim_weights_by : Cutting → List Flow → List ℕ
rim_weights_by t flows = map (rim_weight t flows) (range_with_len 0 (rim_number_count t))

-- What rim number k gets of an amount sent to a place: all if the place has rim number k, else 0.
abbrev pub sent_to : Cutting → ℕ → Option Place → ℕ → ℕ
sent_to t k None amount = 0
sent_to t k (Some entry) amount = if rim_number t entry == k then amount else 0

-- The amount that rim number i sends to rim number k: its total if the target of i has number k,
-- else 0.
abbrev pub entering : Cutting → List (Option Place) → List ℕ → ℕ → ℕ → ℕ
entering t targets totals k i = sent_to t k (slice_index_or targets i None) (slice_index totals i)

-- The inflow of each rim number: the sum of the amounts that all rim numbers send to it.
pub record AreEntering (t : Cutting) (targets : List (Option Place)) (totals listed : List ℕ) :
    Type 0 where
  pub size : length listed ≡ rim_number_count t
  pub each : (k : ℕ) → k < rim_number_count t →
      slice_index listed k ≡ sum_below (entering t targets totals k) (rim_number_count t)

-- The inflows of all tiles, by rim number.
pub record Inflows : Type 0 where
  pub cutting : Cutting
  pub listed : List ℕ

-- The inflow at a place: that of its rim number, or 0 off the rim.
abbrev pub inflow_by : Cutting → List ℕ → Place → ℕ
inflow_by t listed p =
    if is_place (rim_place t (rim_number t p)) p then slice_index listed (rim_number t p) else 0

abbrev pub listed_inflow : Inflows → Place → ℕ
listed_inflow l p = inflow_by l.cutting l.listed p

-- Each place of the grid has its inflow.
pub record AreInflows (d : Directed) (t : Cutting) (l : Inflows) : Type 0 where
  pub cutting : l.cutting ≡ t
  pub size : length l.listed ≡ rim_number_count t
  pub each : (p : Place) → IsWithin t p → listed_inflow l p ≡ inflow_of d t p

-- What an amount listed for a rim cell adds at p: the amount if p is that cell, 0 otherwise.
abbrev pub adds_at : Option Place → ℕ → Place → ℕ
adds_at None amount p = 0
adds_at (Some q) amount p = if is_place q p then amount else 0

-- The inflow that one side number of a tile (a rim cell's number in its tile) adds at p.
abbrev pub adds : Cutting → List ℕ → ℕ → ℕ → Place → ℕ
adds t listed tile side p =
    let largest = bounds_of t 0 in
    adds_at (side_cell largest (bounds_of t tile) side)
    (slice_index listed (tile * stride largest + side)) p
