-- Counts of steps between rounds, and the lower counts that a round finds. A count is the fewest
-- moves at one filled height, found so far, from a cell to one that drains at once, or unknown.
-- Private.
use Rattle.std.specs.Prelude.{◌≡◌, ℕ, ◌+◌, ◌*◌, ◌<◌, ◌≤◌, All, List, Vec, length, Option, None, Some, slice_get, slice_index_or}
use Rattle.std.specs.declared.alloc.Global.{Global}
use Rattle.terrain.specs.Raster.{Terrain, IsTerrain}
use Rattle.terrain.specs.Neighbours.{height_at, index_of, IsInside, IsNeighbour}
use Rattle.terrain.specs.declared.place.Place.{Place}
use Rattle.tiles.specs.declared.bounds.Bounds.{Bounds}
use Rattle.tiles.specs.Cutting.{Cutting, Cuts, longest_axis, tile_count}
use Rattle.tile_maps.specs.Maps.{IsMadeTile}
use Rattle.tile_jobs.specs.Sums.{sum_below}
use Rattle.drain.specs.Beginning.{HasZeros}
use Rattle.drain.specs.Search.{stored}
use Rattle.drain.specs.Directions.{IsCodeAt}
use Rattle.drain.specs.Rounds.{AreWalked, IsWalked}
use Rattle.drain.specs.Steps.{AreSteps, DrainsAtOnce}
use Rattle.drain.specs.declared.changes.Change.{Change}
use Rattle.drain.specs.declared.changes.Run.{Run}
use Rattle.drain.specs.declared.lowering.Found.{Found}
use Rattle.drain.specs.declared.changes.TileEntry.{TileEntry}

-- Each cell that drains at once has the count 0. Each known count is the length of a flat walk.
pub record AreSoundCounts (t : Terrain) (steps : List (Option ℕ)) : Type 0 where
  pub size : length steps ≡ t.cols * t.rows
  pub zeros : HasZeros t steps
  pub walked : AreWalked (DrainsAtOnce t) t steps

-- The count at a row-order index, 2^24 if none is known.
abbrev pub count_of : List (Option ℕ) → ℕ → ℕ
count_of steps k = stored (slice_index_or steps k None)

-- The sum of all counts, where an unknown one counts as 2^24.
abbrev pub count_sum : List (Option ℕ) → ℕ
count_sum steps = sum_below (count_of steps) (length steps)

-- A flat walk from the cell has as many moves as the count says.
pub record IsCounted (t : Terrain) (x : Change) : Type 0 where
  pub inside : IsInside t x.place
  pub walked : IsWalked (DrainsAtOnce t) t x.place x.count

-- The count is that of a flat walk from the cell, and less than the cell's count so far.
pub record IsChange (t : Terrain) (steps : List (Option ℕ)) (x : Change) : Type 0 where
  pub counted : IsCounted t x
  pub less : x.count < count_of steps (index_of t.cols x.place)

abbrev pub AreChanges : Terrain → List (Option ℕ) → List Change → Type 0
AreChanges t steps changes = All (IsChange t steps) changes

-- Each change that the jobs of a round found is the count of a flat walk from its cell.
abbrev pub AreFound : Terrain → List Found → Type 0
AreFound t outs = All (λ (found : Found). All (IsCounted t) found.changes.items) outs

-- What a round reads: a terrain, the cutting of its grid into tiles, and the counts so far.
pub record Counted : Type 0 where
  pub terrain : Terrain
  pub cutting : Cutting
  pub steps : List (Option ℕ)

-- The cutting is of the terrain's grid, and the counts are sound (`AreSoundCounts`).
pub record IsCountedTerrain (c : Counted) : Type 0 where
  pub lawful : IsTerrain c.terrain
  pub cuts : Cuts c.cutting c.terrain
  pub counts : AreSoundCounts c.terrain c.steps

-- The bounds lie in the terrain's grid, which is within limits.
abbrev pub IsWithinGrid : Terrain → Bounds → Type 0
IsWithinGrid t b = (b.top + b.rows ≤ t.rows) × (b.left + b.cols ≤ t.cols) × (t.rows ≤ longest_axis)
    × (t.cols ≤ longest_axis)

-- The jobs of a round: what they read, and for each job the range of its entries in their list.
pub record Jobs : Type 0 where
  pub counted : Counted
  pub entries : List TileEntry
  pub runs : List Run

-- The range lies in a list of this length.
abbrev pub IsRun : ℕ → Run → Type 0
IsRun size run = (run.from ≤ run.end) × (run.end ≤ size)

-- Each entry is a change of the counts, and each range lies in the list of entries.
pub record AreJobs (j : Jobs) : Type 0 where
  pub entries :
      All (λ (e : TileEntry). IsChange j.counted.terrain j.counted.steps e.change) j.entries
  pub runs : All (IsRun (length j.entries)) j.runs

-- The cells are neighbours of one height.
pub record AreEquallyHigh (t : Terrain) (p q : Place) : Type 0 where
  pub next : IsNeighbour t p q
  pub level : height_at t q ≡ height_at t p

-- The cell's count is at most one above that of each neighbour of its height.
abbrev pub IsStill : Terrain → List (Option ℕ) → Place → Type 0
IsStill t steps p = (q : Place) → AreEquallyHigh t p q →
    count_of steps (index_of t.cols p) ≤ count_of steps (index_of t.cols q) + 1

-- The count of cell p is at most one above those of neighbours of its height. If the counts are
-- the steps, the code is the cell's direction.
abbrev pub IsCheckedCode : Terrain → List (Option ℕ) → Place → Option ℕ → Type 0
IsCheckedCode t steps p code = IsStill t steps p × (AreSteps t steps → IsCodeAt t p code)

-- The lists have the directions of each tile, in the order of the tiles.
pub record AreCoded (t : Terrain) (c : Cutting) (lists : List (Vec (Option ℕ) Global))
    : Type 0 where
  pub size : length lists ≡ tile_count c
  pub each : (k : ℕ) (list : Vec (Option ℕ) Global) → slice_get lists k ≡ Some list →
      IsMadeTile c k (IsCodeAt t) list.items
