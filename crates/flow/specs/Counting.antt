-- How a tile's accumulations come from its flow, of which they use the bounds and codes alone, and
-- from its inflows.
-- Private.
use Rattle.std.specs.Prelude.{◌≡◌, ℕ, ◌+◌, ◌*◌, ◌^◌, ◌<◌, ◌≤◌, List, length, Option, Some, slice_get, slice_index}
use Rattle.terrain.specs.declared.place.Place.{Place}
use Rattle.tiles.specs.declared.bounds.Bounds.{Bounds}
use Rattle.tiles.specs.Cutting.{Cutting, IsInBounds, bounds_of, cell_count, tile_count, index_in}
use Rattle.flow.specs.Counts.{accumulation, IsValueAt}
use Rattle.flow.specs.Streams.{AreStreams, AreSums, total}
use Rattle.flow.specs.TileFlow.{Flow}
use Rattle.flow.specs.TileLinks.{links_by, weights_by, counts_by}
use Rattle.flow.specs.RimGraph.{AreFlowsOf}
use Rattle.flow.specs.Whole.{IsGridFlow, make_directed}
use Rattle.flow.specs.Inflows.{Inflows, listed_inflow, AreInflows}

-- The flows and the inflows are those of the map of directions with these codes.
pub record IsCounting (t : Cutting) (codes : List (Option ℕ)) (flows : List Flow)
    (inflows : Inflows) : Type 0 where
  pub grid : IsGridFlow t.cols t.rows codes
  pub are_flows : AreFlowsOf (make_directed t.cols t.rows codes) t flows
  pub are_inflows : AreInflows (make_directed t.cols t.rows codes) t inflows

-- In every map with these flows and inflows, the entry is p's accumulation; `None` at NODATA.
abbrev pub IsCountAt : Cutting → List Flow → Inflows → Place → Option ℕ → Type 0
IsCountAt t flows inflows p entry = (codes : List (Option ℕ)) → IsCounting t codes flows inflows →
    IsValueAt (make_directed t.cols t.rows codes) (accumulation (make_directed t.cols t.rows codes))
    p entry

-- The inflow of each cell of a tile.
pub record AreInflowWeights (inflows : Inflows) (b : Bounds) (weights : List ℕ) : Type 0 where
  pub size : length weights ≡ b.rows * b.cols
  pub each : (p : Place) → IsInBounds b p →
      slice_index weights (index_in b p) ≡ listed_inflow inflows p

-- What a tile's job requires: the flow has the tile's bounds and size, at most 2^24 cells, and
-- links whose paths all end. Inflows are below 2^31, and totals below 2^32.
pub record IsCountable (inflows : Inflows) (tile : ℕ) (f : Flow) : Type 0 where
  pub bounds : f.bounds ≡ bounds_of inflows.cutting tile
  pub size : length f.codes ≡ cell_count inflows.cutting tile
  pub linked : length (links_by f.bounds f.codes) ≡ length f.codes
  pub few : length f.codes ≤ 2 ^ 24
  pub streams : AreStreams (links_by f.bounds f.codes)
  pub few_enter : (p : Place) → IsInBounds (bounds_of inflows.cutting tile) p →
      listed_inflow inflows p < 2 ^ 31
  pub totals_fit : (weights : List ℕ) →
      AreInflowWeights inflows (bounds_of inflows.cutting tile) weights →
      (i : ℕ) → i < length f.codes → total (links_by f.bounds f.codes) (weights_by f.codes) i
      + total (links_by f.bounds f.codes) weights i < 2 ^ 32

-- What all jobs require: one flow for each tile, each as the tile's job requires (`IsCountable`).
pub record AreCountable (t : Cutting) (flows : List Flow) (inflows : Inflows) : Type 0 where
  pub same_cutting : inflows.cutting ≡ t
  pub count : length flows ≡ tile_count t
  pub each : (tile : ℕ) (f : Flow) → slice_get flows tile ≡ Some f → IsCountable inflows tile f

-- The values are the counts of the cells' totals inside the tile, plus the totals of the inflows.
pub record AreCounts (inflows : Inflows) (tile : ℕ) (f : Flow)
    (values : List (Option ℕ)) : Type 0 where
  pub weights : List ℕ
  pub totals : List ℕ
  pub added : List ℕ
  pub weighed : AreInflowWeights inflows (bounds_of inflows.cutting tile) weights
  pub counted : AreSums (links_by f.bounds f.codes) (weights_by f.codes) totals
  pub summed : AreSums (links_by f.bounds f.codes) weights added
  pub made : values ≡ counts_by f.codes (λ i. slice_index totals i + slice_index added i)
