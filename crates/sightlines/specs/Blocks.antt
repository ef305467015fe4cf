-- Blocks of `size` by `size` cells: lists with an upper bound of each block's heights, and blocks
-- that are low, which means not above a line.
-- Public clauses cite `blocks_in` and `IsTops` alone.
-- Public.
use Rattle.std.specs.Prelude.{◌≡◌, ℕ, ◌+◌, ◌-◌, ◌*◌, ◌/◌, ◌<◌, ◌≤◌, ℤ, pos, ◌*ℤ◌, ◌≤ℤ◌, List, length, Option, None, Some, MatchOption, slice_index_or, min, max}
use Rattle.terrain.specs.Raster.{Terrain, IsHeight}
use Rattle.terrain.specs.Neighbours.{height_at}
use Rattle.terrain.specs.declared.place.Place.{Place}
use Rattle.sightlines.specs.Walk.{steps_of, AreHeights}
use Rattle.sightlines.specs.declared.walk.Sightline.{Sightline}
use Rattle.sightlines.specs.declared.walk.Step.{Step}
use Rattle.sightlines.specs.declared.passing.BlockStrides.{BlockStrides}
use Rattle.sightlines.specs.declared.tops.MaxHeights.{MaxHeights}

-- The number of blocks that hold n cells side by side.
abbrev pub blocks_in : ℕ → ℕ → ℕ
blocks_in size n = (n + (size - 1)) / size

-- The index of the block of a place, in a list of blocks in row order.
abbrev pub block_of : ℕ → Terrain → Place → ℕ
block_of size t p = p.row / size * blocks_in size t.cols + p.col / size

-- A block's entry is a height, and height h is not above it.
abbrev pub IsTopOf : Option ℤ → ℤ → Type 0
IsTopOf top h = MatchOption top ⊥ (λ m. h ≤ℤ m)

-- The list has an entry for each block. No height of a block is above its entry.
pub record AreTops (size : ℕ) (t : Terrain) (tops : List (Option ℤ)) : Type 0 where
  pub count : length tops ≡ blocks_in size t.rows * blocks_in size t.cols
  pub heights : AreHeights tops
  pub above : (p : Place) (h : ℤ) → height_at t p ≡ Some h →
      IsTopOf (slice_index_or tops (block_of size t p) None) h

-- No block's entry is above the peak.
abbrev pub IsPeak : List (Option ℤ) → ℤ → Type 0
IsPeak tops peak = (i : ℕ) (h : ℤ) → slice_index_or tops i None ≡ Some h → h ≤ℤ peak

-- `tops` has the entries of near and of far blocks, and a peak which no far block's entry exceeds.
pub record IsTops (t : Terrain) (tops : MaxHeights) : Type 0 where
  pub near : AreTops 16 t tops.near.items
  pub far : AreTops 128 t tops.far.items
  pub height : IsHeight tops.peak
  pub peak : IsPeak tops.far.items tops.peak

-- No cell's height is above the entry of its block, for cells up to the line's greater end on each
-- coordinate. In `tops`, the list of entries, neighbouring blocks are the strides `s` apart.
pub record AreTopsAlong (size : ℕ) (cells tops : List (Option ℤ)) (l : Sightline)
    (s : BlockStrides) : Type 0 where
  pub heights : AreHeights tops
  pub over : max l.lead.from l.lead.to / size * s.lead + max l.side.from l.side.to / size * s.side
      < length tops
  pub above : (a b : ℕ) (h : ℤ) → a ≤ max l.lead.from l.lead.to → b ≤ max l.side.from l.side.to
      → slice_index_or cells (a * l.lead.stride + b * l.side.stride) None ≡ Some h
      → IsTopOf (slice_index_or tops (a / size * s.lead + b / size * s.side) None) h

-- The block's entry is NODATA, or a height that, times n, is not above z. For a line, n is the
-- number of its steps, and z its elevation at a step times n (`Step`).
abbrev pub IsLow : Option ℤ → ℕ → ℤ → Type 0
IsLow top n z = MatchOption top (Unit {0}) (λ m. (pos n *ℤ m) ≤ℤ z)

-- Take the blocks that a line can meet between steps `start` and `end`, while its leading
-- coordinate stays in row (or column) `block` of the blocks. Each of them is low at both steps.
abbrev pub AreLowBetween : ℕ → List (Option ℤ) → BlockStrides → Sightline → ℕ → Step → Step → Type 0
AreLowBetween size tops s l block start end =
    (cell : ℕ) → min start.whole end.whole ≤ cell → cell ≤ max start.whole end.whole + 1 →
    cell ≤ max l.side.from l.side.to
    → let top = slice_index_or tops (block * s.lead + cell / size * s.side) None in
    IsLow top (steps_of l) start.sight × IsLow top (steps_of l) end.sight
