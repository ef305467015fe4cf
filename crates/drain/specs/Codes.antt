-- The last round finds the codes of directions, tile by tile, and whether a count is more than one
-- above that of a neighbour of equal height. A job has the heights and counts at the spots of a
-- tile's window: the tile and one row or column on each side.
-- Private.
use Rattle.std.specs.Prelude.{◌≡◌, ℕ, ◌+◌, ◌*◌, ◌<◌, ◌≤◌, ℤ, List, Vec, Option, None, Some, length, map, slice_get, slice_index_or}
use Rattle.std.specs.declared.alloc.Global.{Global}
use Rattle.terrain.specs.Raster.{Terrain, IsTerrain}
use Rattle.terrain.specs.Ways.{code_of}
use Rattle.terrain.specs.declared.place.Place.{Place}
use Rattle.tiles.specs.declared.bounds.Bounds.{Bounds}
use Rattle.tiles.specs.Windows.{spot_index}
use Rattle.tiles.specs.Cutting.{tile_count}
use Rattle.tile_maps.specs.Maps.{IsMadeTile, IsMadeUpTo}
use Rattle.drain.specs.Counts.{AreSoundCounts, Counted, IsChange, IsCheckedCode}
use Rattle.drain.specs.Search.{AreEntriesShown, stored}
use Rattle.drain.specs.Drops.{IsFirstSteepest}
use Rattle.drain.specs.declared.codes.Checked.{Checked}
use Rattle.drain.specs.declared.codes.Checked.TheVariants as checked
use Rattle.drain.specs.declared.codes.TileCodes.{TileCodes}
use Rattle.drain.specs.declared.codes.TileCodes.TheVariants as tile_codes

-- A terrain, counts of its cells in row order, the bounds of one of its tiles, and heights and
-- counts at the spots of the tile's window.
pub record CountedSpots : Type 0 where
  pub terrain : Terrain
  pub all : List (Option ℕ)
  pub bounds : Bounds
  pub levels : List (Option ℤ)
  pub steps : List (Option ℕ)

-- At each spot these are the height and the count of the terrain's cell there; `None` off the grid.
pub record AreCountedSpots (w : CountedSpots) : Type 0 where
  pub lawful : IsTerrain w.terrain
  pub counts : AreSoundCounts w.terrain w.all
  pub levels : AreEntriesShown w.terrain w.terrain.cells w.bounds w.levels
  pub steps : AreEntriesShown w.terrain w.all w.bounds w.steps

-- The count at a spot, 2^24 if none is known.
abbrev pub stored_on : CountedSpots → Place → ℕ
stored_on w s = stored (slice_index_or w.steps (spot_index w.bounds s) None)

-- The height on a way. For each way, `at` has its index in the list `cells`.
abbrev pub level_at : List (Option ℤ) → List ℕ → ℕ → Option ℤ
level_at cells at way = slice_index_or cells (slice_index_or at way 0) None

-- The count on a way, 2^24 if none is known. For each way, `at` has its index in the list `steps`.
abbrev pub stored_at : List (Option ℕ) → List ℕ → ℕ → ℕ
stored_at steps at way = stored (slice_index_or steps (slice_index_or at way 0) None)

-- The count `own` is at most one above those on the ways at the height `level`.
abbrev pub IsStillAround : List (Option ℤ) → List (Option ℕ) → List ℕ → Option ℤ → ℕ → Type 0
IsStillAround cells steps at level own = (way : ℕ) → way < 8 →
    level_at cells at way ≡ level → own ≤ stored_at steps at way + 1

-- `count` is less than `own`, and one above the count on a way at the height `level`.
abbrev pub IsTooHigh : List (Option ℤ) → List (Option ℕ) → List ℕ → Option ℤ → ℕ → ℕ → Type 0
IsTooHigh cells steps at level own count = (count < own) × (way : ℕ) × (way < 8)
    × (level_at cells at way ≡ level)
    × (count ≡ stored_at steps at way + 1)

-- The way leads to the height `level`, where the count is one less than `own`.
abbrev pub IsOnwardWay : List (Option ℤ) → List (Option ℕ) → List ℕ → Option ℤ → ℕ → ℕ → Type 0
IsOnwardWay cells steps at level own way =
    (level_at cells at way ≡ level) × (own ≡ stored_at steps at way + 1)

-- `found` is the first of the ways from `start` on for which `Is` holds; `None` if there is none.
abbrev pub IsFirstWay : (ℕ → Type 0) → ℕ → Option ℕ → Type 0
IsFirstWay Is start None = (way : ℕ) → start ≤ way → way < 8 → Is way → ⊥
IsFirstWay Is start (Some first) =
    (first < 8) × Is first × ((way : ℕ) → start ≤ way → way < 8 → Is way → first ≤ way)

-- The code is that of the first way that leads on (`IsOnwardWay`), 0 if none does.
abbrev pub IsOnwardCode : List (Option ℤ) → List (Option ℕ) → List ℕ → Option ℤ → ℕ → ℕ → Type 0
IsOnwardCode cells steps at level own code = (found : Option ℕ) × (code ≡ code_of found)
    × IsFirstWay (IsOnwardWay cells steps at level own) 0 found

-- The code is that of the first of the steepest ways down, 0 if none leads down.
abbrev pub IsDownCode : List (Option ℤ) → List ℕ → ℤ → ℕ → Type 0
IsDownCode cells at level code = (heights : List (Option ℤ))
    × ((way : ℕ) → way < 8 → slice_index_or heights way None ≡ level_at cells at way)
    × (found : Option ℕ) × (code ≡ code_of found) × IsFirstSteepest level heights found

-- The codes of the window's tile, each checked (`IsCheckedCode`), or a lower count of a cell.
abbrev pub AreCodes : CountedSpots → TileCodes → Type 0
AreCodes w (tile_codes.Codes list) = IsMadeUpTo w.bounds (IsCheckedCode w.terrain w.all)
    (w.bounds.rows * w.bounds.cols) list.items
AreCodes w (tile_codes.TooHigh change) = IsChange w.terrain w.all change

-- The codes of the tile, each checked (`IsCheckedCode`), or a lower count of a cell.
abbrev pub IsTileCodes : Counted → ℕ → TileCodes → Type 0
IsTileCodes c tile (tile_codes.Codes list) =
    IsMadeTile c.cutting tile (IsCheckedCode c.terrain c.steps) list.items
IsTileCodes c tile (tile_codes.TooHigh change) = IsChange c.terrain c.steps change

-- The lists of codes that the jobs found, in the order of the tiles, or a lower count that one
-- found.
abbrev pub AreAll : List TileCodes → Checked → Type 0
AreAll outs (checked.Codes lists) = outs ≡ map (λ list. tile_codes.Codes list) lists.items
AreAll outs (checked.TooHigh change) =
    (k : ℕ) × (slice_get outs k ≡ Some (tile_codes.TooHigh change))

-- Each tile's list has the codes of the tile, each checked, or a cell has a lower count.
abbrev pub IsChecked : Counted → Checked → Type 0
IsChecked c (checked.Codes lists) = (length lists.items ≡ tile_count c.cutting)
    × ((k : ℕ) (list : Vec (Option ℕ) Global) → slice_get lists.items k ≡ Some list →
    IsMadeTile c.cutting k (IsCheckedCode c.terrain c.steps) list.items)
IsChecked c (checked.TooHigh change) = IsChange c.terrain c.steps change
