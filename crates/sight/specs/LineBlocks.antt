-- Upper bounds of the heights of near blocks, 16 by 16 cells, along a family's axes. A family's
-- lines are the columns, or the rows, on one side of an observer.
-- Private.
use Rattle.std.specs.Prelude.{◌≡◌, ℕ, ◌+◌, ◌*◌, ◌/◌, ◌<◌, ◌≤◌, ℤ, List, Option, None, Some, slice_index_or}
use Rattle.sightlines.specs.Walk.{AreHeights}
use Rattle.sightlines.specs.Blocks.{IsTopOf}
use Rattle.sight.specs.Sweep.{lead_of}
use Rattle.sight.specs.declared.family.Family.{Family}
use Rattle.sight.specs.declared.line_blocks.LineBlocks.{LineBlocks}

-- The numbers are at most 4096.
pub record AreLineBlocks (b : LineBlocks) : Type 0 where
  pub strides : (b.across ≤ 4096) × (b.along ≤ 4096)
  pub end : b.end ≤ 4096

-- The lines from k to `last` are in the grid, and in one row (or column) of blocks.
abbrev pub AreInBlocks : Family → LineBlocks → ℕ → ℕ → Type 0
AreInBlocks f b k last = (j : ℕ) → k ≤ j → j ≤ last →
    (lead_of f j < b.end) × (lead_of f j / 16 ≡ lead_of f k / 16)

-- The list has heights within limits. No cell at coordinates x across the lines and y along them is
-- above the entry of its block.
pub record AreLineTops (cells : List (Option ℤ)) (f : Family) (tops : List (Option ℤ))
    (b : LineBlocks) : Type 0 where
  pub heights : AreHeights tops
  pub blocks : AreLineBlocks b
  pub above : (x y : ℕ) (h : ℤ) → x < b.end → y < f.side.cells →
      slice_index_or cells (x * f.lines.stride + y * f.side.stride) None ≡ Some h
      → IsTopOf (slice_index_or tops (x / 16 * b.across + y / 16 * b.along) None) h
