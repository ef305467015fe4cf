-- Counts before the first round, and counts that a round over all tiles leaves as they are. A count
-- is the fewest moves found so far from a cell to one that drains at once, or unknown.
-- Public.
use Rattle.std.specs.Prelude.{◌≡◌, ◌⊎◌, ◌≤◌, ◌<◌, ℕ, ◌+◌, ◌*◌, ℤ, ◌<ℤ◌, List, length, Option, None, Some, IfSome, slice_index_or}
use Rattle.terrain.specs.Neighbours.{IsInside, entry_at, IsEdge}
use Rattle.terrain.specs.Raster.{Terrain, IsHeight}
use Rattle.terrain.specs.Ways.{around_index}
use Rattle.terrain.specs.declared.place.Place.{Place}
use Rattle.tiles.specs.declared.bounds.Bounds.{Bounds}
use Rattle.tiles.specs.declared.window.Window.{Window}
use Rattle.tiles.specs.Cutting.{Cutting, IsInTile, cell_count, tile_count, tile_entry}
use Rattle.drain.specs.Steps.{HasLower, DrainsAtOnce}
use Rattle.drain.specs.Rounds.{IsRound, IsWalked}
use Rattle.drain.specs.Search.{AreAtMostNoCount, count_on, height_on}
use Rattle.tiles.specs.Windows.{IsInner, IsSpot, Shows, area_of, spot_index}
use Rattle.drainage.specs.StepCounts.{known, no_count}

-- The cell has no data or lies below height `level`.
abbrev pub IsGapOrLower : ℤ → Option ℤ → Type 0
IsGapOrLower level None = Unit {0}
IsGapOrLower level (Some height) = height <ℤ level

-- The cell has a lower neighbour or is an edge cell. Being a named sink does not suffice.
abbrev pub IsEdgeOrHasLower : Terrain → Place → Type 0
IsEdgeOrHasLower t p = HasLower t p ⊎ IsEdge t p

-- The count of p is 0 if `Drains` holds for p, and `None` otherwise.
pub record IsInitialCount (Drains : Place → Type 0) (p : Place) (count : Option ℕ) : Type 0 where
  pub zero : Drains p → count ≡ Some 0
  pub only : (n : ℕ) → count ≡ Some n → Drains p × (n ≡ 0)

-- The initial counts in row order: 0 at each cell that drains at once, `None` elsewhere.
pub record AreInitialCounts (t : Terrain) (counts : List (Option ℕ)) : Type 0 where
  pub size : length counts ≡ t.cols * t.rows
  pub each : (p : Place) → IsInside t p →
      IsInitialCount (DrainsAtOnce t) p (entry_at t.cols t.rows counts p)

-- The spot lies in the tile and has data. A spot around it has no data or a lower height.
abbrev pub HasGapOrLower : Window (Option ℤ) → Place → Type 0
HasGapOrLower w s = IsInner w.bounds s × (level : ℤ) × (height_on w s ≡ Some level)
    × (way : ℕ) × (way < 8) × IsGapOrLower level (slice_index_or w.values.items
    (slice_index_or (around_index (w.bounds.cols + 2) (spot_index w.bounds s)) way 0) None)

-- `count` is the initial count at spot s: 0 if `Drains` holds for the spot, else unknown. Spots are
-- the places of a tile's window: the tile and one row or column on each side.
abbrev pub IsBegunSpot : (Place → Type 0) → Place → ℕ → Type 0
IsBegunSpot Drains s count = (count ≤ no_count) × IsInitialCount Drains s (known count)

-- Each cell has no data or has a height within the limits.
abbrev pub AreHeights : List (Option ℤ) → Type 0
AreHeights cells = (k : ℕ) → IfSome (slice_index_or cells k None) IsHeight

-- The initial counts at the spots around the tile and at those of the tile in the rows before
-- `row`, and in it before column `col`: 0 where `Drains` holds, else unknown.
pub record AreBegunUpTo (Drains : Place → Type 0) (b : Bounds) (row col : ℕ)
    (counts : List ℕ) : Type 0 where
  pub size : length counts ≡ area_of b
  pub each : (s : Place) → IsSpot b s →
      (IsInner b s → (s.row < row) ⊎ ((s.row ≡ row) × (s.col < col))) →
      IsBegunSpot Drains s (count_on b counts s)

-- Each known count is the length of a flat walk from the place of its spot.
abbrev pub AreSoundSpots : Terrain → Bounds → List ℕ → Type 0
AreSoundSpots t b counts = (s : Place) → IsSpot b s → count_on b counts s < no_count →
    (p : Place) × Shows b s p × IsWalked (DrainsAtOnce t) t p (count_on b counts s)

-- Counts at the spots of a tile's window: sound, and 0 at each cell of the tile for which `Zero`
-- holds.
pub record AreBegun (t : Terrain) (b : Bounds) (Zero : Place → Type 0) (counts : List ℕ)
    : Type 0 where
  pub size : length counts ≡ area_of b
  pub few : AreAtMostNoCount counts
  pub sound : AreSoundSpots t b counts
  pub zeros : (s p : Place) → IsInner b s → Shows b s p → Zero p → count_on b counts s ≡ 0

-- Each cell that drains at once has the count 0.
abbrev pub HasZeros : Terrain → List (Option ℕ) → Type 0
HasZeros t counts = (p : Place) → DrainsAtOnce t p → entry_at t.cols t.rows counts p ≡ Some 0

-- `counts` has the counts of a tile in row order: 0 at each cell that drains at once, each other
-- unknown or the length of a flat walk.
pub record AreSoundInTile (t : Terrain) (c : Cutting) (tile : ℕ) (counts : List (Option ℕ))
    : Type 0 where
  pub size : length counts ≡ cell_count c tile
  pub zeros : (p : Place) → IsInTile c tile p → DrainsAtOnce t p →
      tile_entry c tile counts p ≡ Some 0
  pub walked : (p : Place) → IsInTile c tile p →
      IfSome (tile_entry c tile counts p) (IsWalked (DrainsAtOnce t) t p)

-- A round over all tiles changes no count; `lists` has the counts of each tile after that round.
pub record KeepsCounts (t : Terrain) (c : Cutting) (steps : List (Option ℕ))
    (lists : ℕ → List (Option ℕ)) : Type 0 where
  pub rounds : (tile : ℕ) → tile < tile_count c →
      IsRound (DrainsAtOnce t) t c tile steps (lists tile)
  pub same : (tile : ℕ) (p : Place) → IsInTile c tile p →
      tile_entry c tile (lists tile) p ≡ entry_at t.cols t.rows steps p
