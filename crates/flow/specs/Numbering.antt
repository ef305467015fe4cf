-- Numbers of the cells where flow paths end, and the numbers that a tile's cells get from them.
-- Private.
use Rattle.std.specs.Prelude.{◌≡◌, ℕ, ◌+◌, ◌-◌, ◌*◌, ◌^◌, ◌<◌, ◌≤◌, List, map, length, take, count_by, Option, None, Some, IfSome, is_some, if◌then◌else◌, slice_get, slice_index, slice_index_or}
use Rattle.std.specs.List.{range_with_len}
use Rattle.terrain.specs.Neighbours.{index_of}
use Rattle.terrain.specs.StoredCells.{uncounted}
use Rattle.terrain.specs.declared.place.Place.{Place}
use Rattle.tiles.specs.Cutting.{Cutting, IsWithin, cell_count, tile_count, index_in, place_in}
use Rattle.drainage.specs.Following.{Directed, last_of}
use Rattle.flow.specs.Counts.{IsValueAt}
use Rattle.flow.specs.TileFlow.{Flow}
use Rattle.flow.specs.TileLinks.{where_data}
use Rattle.flow.specs.Whole.{is_outlet_code}
use Rattle.flow.specs.RimGraph.{AreFlowsOf, Outlets, AreOutlets, listed_outlet}

-- How many cells a grid or a tile has, or how many nodes there are, and by index the number of each
-- where a path may end.
pub record EndNumbers : Type 0 where
  pub cells : ℕ
  pub number : ℕ → ℕ

-- The number of an outlet: 1 plus how many outlets precede it in row order.
abbrev pub outlet_numbers : List (Option ℕ) → EndNumbers
outlet_numbers codes =
    record { cells = length codes; number = λ i. 1 + count_by is_outlet_code (take i codes) }

-- `before` has how many outlets precede each group of 16 codes, of fewer than 2^32 - 1 codes.
pub record AreGroupsCounted (codes : List (Option ℕ)) (before : List ℕ) : Type 0 where
  pub few : length codes < 2 ^ 32 - 1
  pub enough : length codes ≤ length before * 16
  pub each : (k : ℕ) → k < length before →
      slice_index before k ≡ count_by is_outlet_code (take (k * 16) codes)

-- The number of the cell that ends the flow path of p.
abbrev pub end_number : Directed → EndNumbers → Place → ℕ
end_number d n p = n.number (index_of d.cols (last_of d p))

-- The flows and outlets are those of a map of directions, and each number of n is below
-- `uncounted`, the stored count of NODATA.
pub record IsNumbering (d : Directed) (t : Cutting) (flows : List Flow) (outlets : Outlets)
    (n : EndNumbers) : Type 0 where
  pub are_flows : AreFlowsOf d t flows
  pub are_outlets : AreOutlets d t flows outlets
  pub same_cutting : outlets.cutting ≡ t
  pub size : n.cells ≡ d.cols * d.rows
  pub few : (i : ℕ) → i < n.cells → n.number i < uncounted

-- In every map with these flows and outlets, the entry is p's end number; `None` at NODATA.
abbrev pub IsEndNumberAt : Cutting → List Flow → Outlets → EndNumbers → Place → Option ℕ → Type 0
IsEndNumberAt t flows outlets n p entry =
    (d : Directed) → IsNumbering d t flows outlets n → IsValueAt d (end_number d n) p entry

-- The number of an outlet; 0 without one.
abbrev pub number_at : ℕ → EndNumbers → Option Place → ℕ
number_at cols n None = 0
number_at cols n (Some outlet) = n.number (index_of cols outlet)

-- A place in the grid; the outlet listed for it, if any, has a number, below `uncounted`.
pub record IsNumberedPlace (outlets : Outlets) (flows : List Flow) (n : EndNumbers) (p : Place) :
    Type 0 where
  pub within : IsWithin outlets.cutting p
  pub numbered : IfSome (listed_outlet outlets flows p)
      (λ q. index_of outlets.cutting.cols q < n.cells)
  pub few : number_at outlets.cutting.cols n (listed_outlet outlets flows p) < uncounted

-- A flow has at most 2^24 cells, each with an entry in the codes, at numbered places.
pub record AreNumberedCells (outlets : Outlets) (flows : List Flow) (n : EndNumbers) (f : Flow) :
    Type 0 where
  pub small : length f.exits ≤ 2 ^ 24
  pub codes_size : length f.codes ≡ length f.exits
  pub places : (i : ℕ) → i < length f.exits →
      IsNumberedPlace outlets flows n (place_in f.bounds i)

-- A tile's job requires that the flow has an entry for each cell, and that the cells are numbered.
pub record IsReady (t : Cutting) (flows : List Flow) (outlets : Outlets) (n : EndNumbers) (tile : ℕ)
    (f : Flow) : Type 0 where
  pub size : length f.exits ≡ cell_count t tile
  pub numbered : AreNumberedCells outlets flows n f

-- What all jobs require: one flow for each tile, each as the tile's job requires (`IsReady`).
pub record AreReady (t : Cutting) (flows : List Flow) (outlets : Outlets)
    (n : EndNumbers) : Type 0 where
  pub same_cutting : outlets.cutting ≡ t
  pub count : length flows ≡ tile_count t
  pub each : (tile : ℕ) (f : Flow) → slice_get flows tile ≡ Some f →
      IsReady t flows outlets n tile f

-- The numbers of the outlets listed for a flow's cells, by their indexes in the tile; 0 elsewhere.
abbrev pub tile_numbers : Outlets → List Flow → EndNumbers → Flow → EndNumbers
tile_numbers outlets flows n f = record {
  cells = length f.exits;
  number = λ i. if is_some (slice_index_or f.codes i None)
      then number_at outlets.cutting.cols n (listed_outlet outlets flows (place_in f.bounds i))
      else 0;
}

-- Each cell with an exit has the exit's number, and all numbers are below `uncounted`.
pub record AreExitNumbers (f : Flow) (number : ℕ → ℕ) (numbers : List ℕ) : Type 0 where
  pub size : length numbers ≡ length f.exits
  pub few : (i : ℕ) → i < length f.exits → slice_index numbers i < uncounted
  pub each : (i : ℕ) (e : Place) → i < length f.exits → slice_index_or f.exits i None ≡ Some e →
      slice_index numbers i ≡ number (index_in f.bounds e)

-- The number of each data cell; `None` at NODATA.
abbrev pub cell_numbers_by : List (Option ℕ) → List ℕ → List (Option ℕ)
cell_numbers_by codes numbers =
    map (λ i. where_data (slice_index_or codes i None) (slice_index numbers i))
    (range_with_len 0 (length codes))
