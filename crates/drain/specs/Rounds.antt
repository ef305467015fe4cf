-- Rounds of counting steps, tile by tile. The caller chooses the cells of count 0. Each known count
-- is the length of a walk, over neighbours of one height, to such a cell. Rounds lower each count
-- toward the least such length.
-- Public.
use Rattle.std.specs.Prelude.{◌≡◌, ℕ, ◌+◌, ◌-◌, ◌^◌, ◌<◌, ◌≤◌, List, length, Option, Some, IfSome}
use Rattle.terrain.specs.Raster.{Terrain}
use Rattle.terrain.specs.Neighbours.{height_at, entry_at, IsNeighbour}
use Rattle.terrain.specs.declared.place.Place.{Place}
use Rattle.tiles.specs.Cutting.{Cutting, IsInTile, tile_entry, cell_count}
use Rattle.drain.specs.Steps.{IsWalkAtOneHeight}

-- The number n is below 2^24, and some walk at one height from p to a cell of `Ends` has n moves.
abbrev pub IsWalked : (Place → Type 0) → Terrain → Place → ℕ → Type 0
IsWalked Ends t p n =
    (n < 2 ^ 24) × (rest : List Place) × IsWalkAtOneHeight Ends t p rest × (length rest ≡ n)

-- Each known count of the list, in row order, is below 2^24 and the length of a walk at one height
-- to a cell of `Ends`.
abbrev pub AreWalked : (Place → Type 0) → Terrain → List (Option ℕ) → Type 0
AreWalked Ends t steps = (p : Place) → IfSome (entry_at t.cols t.rows steps p) (IsWalked Ends t p)

-- If `other` is known and below 2^24 - 1, `count` is known and at most one above `other`.
abbrev pub IsAtMostOneAbove : Option ℕ → Option ℕ → Type 0
IsAtMostOneAbove count other =
    (m : ℕ) → other ≡ Some m → m < 2 ^ 24 - 1 → (n : ℕ) × (count ≡ Some n) × (n ≤ m + 1)

-- `new` has the counts of a tile, in row order, after one round from the counts `old` of the grid.
pub record IsRound (Ends : Place → Type 0) (t : Terrain) (c : Cutting) (tile : ℕ)
    (old new : List (Option ℕ)) : Type 0 where
  pub size : length new ≡ cell_count c tile
  pub walked : (p : Place) → IsInTile c tile p →
      IfSome (tile_entry c tile new p) (IsWalked Ends t p)
  -- a known old count stays known and does not rise
  pub kept : (p : Place) (m : ℕ) → IsInTile c tile p → entry_at t.cols t.rows old p ≡ Some m →
      (n : ℕ) × (tile_entry c tile new p ≡ Some n) × (n ≤ m)
  -- `IsAtMostOneAbove`: each new count is at most one above the known old counts of neighbours of
  -- equal height
  pub near : (p q : Place) → IsInTile c tile p → IsNeighbour t p q → height_at t q ≡ height_at t p →
      IsAtMostOneAbove (tile_entry c tile new p) (entry_at t.cols t.rows old q)
  -- inside the tile also above the known new counts
  pub within : (p q : Place) → IsInTile c tile p → IsInTile c tile q → IsNeighbour t p q →
      height_at t q ≡ height_at t p →
      IsAtMostOneAbove (tile_entry c tile new p) (tile_entry c tile new q)
