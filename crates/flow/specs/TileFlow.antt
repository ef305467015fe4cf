-- Flow inside one tile: each data cell's exit, and its count of other cells' flow paths that reach
-- it there. Inflow: how many flow paths enter a cell from another tile.
-- Public.
use Rattle.std.specs.Prelude.{◌*◌, ◌≤◌, ◌≡◌, ◌≢◌, ℕ, ◌+◌, ◌-◌, ◌<◌, ◌⊎◌, Bool, not, ◌&&◌, ◌==◌, List, length, count_by, Option, None, Some, is_some, IsSome, MatchOption, slice_get, IsTrue}
use Rattle.std.specs.List.{list_any, list_all, range_with_len}
use Rattle.terrain.specs.Ways.{places}
use Rattle.terrain.specs.declared.place.Place.{Place}
use Rattle.tiles.specs.declared.bounds.Bounds.{Bounds}
use Rattle.tiles.specs.Cutting.{Cutting, View, longest_axis, tile_of_place, tile_count, IsInTile, bounds_of, entry_in}
use Rattle.drainage.specs.Following.{Directed, code_at, next, follow, moves, IsOutlet}
use Rattle.terrain.specs.Neighbours.{is_place}

-- The map of directions of which a view shows one tile.
abbrev pub directed_by : View (Option ℕ) → Directed
directed_by v = record { cols = v.cutting.cols; rows = v.cutting.rows; codes = v.cells }

-- The first k moves from p stay in the tile of p.
abbrev pub stays : Directed → Cutting → Place → ℕ → Bool
stays d c p k = list_all (λ j. tile_of_place c (follow d p j) == tile_of_place c p)
    (range_with_len 0 (k + 1))

-- The flow path of q reaches p without leaving the tile of q.
abbrev pub reaches_inside : Directed → Cutting → Place → Place → Bool
reaches_inside d c p q =
    list_any (λ k. is_place p (follow d q k) && stays d c q k) (range_with_len 0 (moves d))

-- How many other data cells' flow paths reach p without leaving the tile.
abbrev pub through_of : Directed → Cutting → Place → ℕ
through_of d c p =
    count_by (λ q. is_some (code_at d q) && not (is_place p q) && reaches_inside d c p q)
    (places d.cols d.rows)

-- An exit: a data cell whose direction leaves its tile, or an outlet.
abbrev pub IsExitCell : Directed → Cutting → Place → Type 0
IsExitCell d c p =
    IsSome (code_at d p) × (IsOutlet d p ⊎ (tile_of_place c (next d p) ≢ tile_of_place c p))

-- e is the exit of p: the cell where the flow path of p leaves the tile or ends.
abbrev pub IsExitOf : Directed → Cutting → Place → Place → Type 0
IsExitOf d c p e =
    (k : ℕ) × (k < moves d) × IsTrue (stays d c p k) × (follow d p k ≡ e) × IsExitCell d c e

-- How many cells' flow paths enter p from another tile.
abbrev pub inflow_of : Directed → Cutting → Place → ℕ
inflow_of d c p =
    count_by (λ q. is_some (code_at d q)
    && list_any (λ k. is_place p (follow d q (k + 1))
    && not (tile_of_place c (follow d q k) == tile_of_place c p))
    (range_with_len 0 (moves d - 1)))
    (places d.cols d.rows)

-- The flow of a tile: codes, counts and exits in row order. There may be no counts.
pub record Flow : Type 0 where
  pub bounds : Bounds
  pub codes : List (Option ℕ)
  pub through : List (Option ℕ)
  pub exits : List (Option Place)

-- The count at a place, as `through_of` counts.
abbrev pub through_in : Flow → Place → Option ℕ
through_in f p = entry_in f.bounds f.through p

-- The exit of a place.
abbrev pub exit_in : Flow → Place → Option Place
exit_in f p = entry_in f.bounds f.exits p

-- The tile has a column and ends within the largest grid. Codes and exits have an entry for each
-- cell.
pub record IsFlow (f : Flow) : Type 0 where
  pub some_col : 1 ≤ f.bounds.cols
  pub few_rows : f.bounds.top + f.bounds.rows ≤ longest_axis
  pub few_cols : f.bounds.left + f.bounds.cols ≤ longest_axis
  pub codes_size : length f.codes ≡ f.bounds.rows * f.bounds.cols
  pub exits_size : length f.exits ≡ f.bounds.rows * f.bounds.cols

-- The flow has the tile's codes, the exit of each data cell, and no exit at NODATA.
pub record IsTileExits (d : Directed) (c : Cutting) (tile : ℕ) (f : Flow) : Type 0 where
  pub bounds : f.bounds ≡ bounds_of c tile
  pub lawful : IsFlow f
  pub same_codes : (p : Place) → IsInTile c tile p → entry_in f.bounds f.codes p ≡ code_at d p
  pub each : (p : Place) → IsInTile c tile p →
      MatchOption (code_at d p) (exit_in f p ≡ None)
      (λ _. (e : Place) × (exit_in f p ≡ Some e) × IsExitOf d c p e)

-- The flow has the count of each data cell of the tile, and no count at NODATA.
pub record IsTileCounts (d : Directed) (c : Cutting) (tile : ℕ) (f : Flow) : Type 0 where
  pub size : length f.through ≡ f.bounds.rows * f.bounds.cols
  pub each : (p : Place) → IsInTile c tile p →
      MatchOption (code_at d p) (through_in f p ≡ None)
      (λ _. through_in f p ≡ Some (through_of d c p))

-- The flow has the exits and the counts of the tile.
pub record IsTileFlow (d : Directed) (c : Cutting) (tile : ℕ) (f : Flow) : Type 0 where
  pub exits : IsTileExits d c tile f
  pub counts : IsTileCounts d c tile f

-- One flow for each tile, in tile order, with the tile's exits and counts.
pub record AreTileFlows (d : Directed) (c : Cutting) (flows : List Flow) : Type 0 where
  pub size : (d.cols ≡ c.cols) × (d.rows ≡ c.rows)
  pub count : length flows ≡ tile_count c
  pub each : (tile : ℕ) (f : Flow) → slice_get flows tile ≡ Some f → IsTileFlow d c tile f

-- One flow for each tile, in tile order, with the tile's exits.
pub record AreTileExits (d : Directed) (c : Cutting) (flows : List Flow) : Type 0 where
  pub size : (d.cols ≡ c.cols) × (d.rows ≡ c.rows)
  pub count : length flows ≡ tile_count c
  pub each : (tile : ℕ) (f : Flow) → slice_get flows tile ≡ Some f → IsTileExits d c tile f

-- Each flow has the counts of its tile.
pub record AreTileCounts (d : Directed) (c : Cutting) (flows : List Flow) : Type 0 where
  pub each : (tile : ℕ) (f : Flow) → slice_get flows tile ≡ Some f → IsTileCounts d c tile f
