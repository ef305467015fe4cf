-- Counts in the window of a tile (the tile and a border of one cell around it), and how a search
-- lowers them. A spot is a place in the window. A count is the fewest moves at one filled height,
-- found so far, from a cell to one that drains at once, or unknown.
-- Private.
use Rattle.std.specs.Prelude.{◌≡◌, ◌≢◌, ℕ, ◌+◌, ◌<◌, ◌≤◌, ℤ, List, All, map, sum, length, Option, None, [], slice_index_or, slice_set, unwrap_or}
use Rattle.terrain.specs.Raster.{Terrain}
use Rattle.terrain.specs.Neighbours.{entry_or, Touches}
use Rattle.terrain.specs.declared.place.Place.{Place}
use Rattle.tiles.specs.declared.bounds.Bounds.{Bounds}
use Rattle.tiles.specs.declared.window.Window.{Window}
use Rattle.tiles.specs.Windows.{area_of, spot_index, IsSpot, IsInner, Shows, AreShown}
use Rattle.drainage.specs.StepCounts.{known, no_count}

-- At each spot of the window, the list has the entry of the grid's cell there; `None` off the grid.
abbrev pub AreEntriesShown : {X : Type 0} → Terrain → List (Option X) → Bounds → List (Option X)
    → Type 0
AreEntriesShown t entries b shown = AreShown (entry_or t.cols t.rows entries None) None b shown

-- The height at a spot.
abbrev pub level_on : Bounds → List (Option ℤ) → Place → Option ℤ
level_on b levels s = slice_index_or levels (spot_index b s) None

-- The height at a spot of a window of heights.
abbrev pub height_on : Window (Option ℤ) → Place → Option ℤ
height_on w s = level_on w.bounds w.values.items s

-- The count at a spot.
abbrev pub count_on : Bounds → List ℕ → Place → ℕ
count_on b counts s = slice_index_or counts (spot_index b s) 0

-- No count is above `no_count`, which stands for an unknown count.
abbrev pub AreAtMostNoCount : List ℕ → Type 0
AreAtMostNoCount counts = (k : ℕ) → slice_index_or counts k 0 ≤ no_count

-- The spots r and s of the window are adjacent and of one height.
pub record AreLevel (w : Window (Option ℤ)) (r s : Place) : Type 0 where
  pub one : IsSpot w.bounds r
  pub other : IsSpot w.bounds s
  pub touches : Touches r s
  pub apart : r ≢ s
  pub level : height_on w r ≡ height_on w s

-- The counts come from the old ones by relaxations. A relaxation lowers a spot's count to one more
-- than the count that an adjacent spot of its height has after some relaxations.
pub data IsSpread (w : Window (Option ℤ)) (old : List ℕ) : List ℕ → Type 0 where
  same : IsSpread w old old
  moved : (counts some : List ℕ) (r s : Place) → IsSpread w old counts → IsSpread w old some →
      AreLevel w r s → count_on w.bounds some r + 1 < count_on w.bounds counts s →
      IsSpread w old (slice_set counts (spot_index w.bounds s) (count_on w.bounds some r + 1))

-- The spot's count is at most one above those of adjacent spots of its height.
pub record IsNear (w : Window (Option ℤ)) (counts : List ℕ) (s : Place) : Type 0 where
  pub each : (r : Place) → Touches s r → height_on w r ≡ height_on w s →
      count_on w.bounds counts s ≤ count_on w.bounds counts r + 1

-- The counts come from the old ones by relaxations. `after` has more spots of the tile than
-- `before`, at most as many as the sum of the counts fell.
pub record IsLowering (w : Window (Option ℤ)) (old new : List ℕ)
    (before after : List Place) : Type 0 where
  pub spread : IsSpread w old new
  pub inner : All (IsInner w.bounds) before → All (IsInner w.bounds) after
  pub left : length after + sum new ≤ length before + sum old

-- A look at some spots has lowered the counts `old` to `counts`, and listed the spots of the tile
-- whose counts fell.
pub record IsPulled (w : Window (Option ℤ)) (old counts : List ℕ) (reached : List Place)
    : Type 0 where
  pub spread : IsSpread w old counts
  pub inner : All (IsInner w.bounds) reached
  pub left : length reached + sum counts ≤ sum old
  pub still : reached ≡ [] → counts ≡ old

-- In the tile each count is at most one above those of adjacent spots of its height.
abbrev pub AreSettled : Window (Option ℤ) → List ℕ → Type 0
AreSettled w counts = (s : Place) → IsInner w.bounds s → IsNear w counts s

-- The number that stores a count, `no_count` for an unknown one.
abbrev pub stored : Option ℕ → ℕ
stored count = unwrap_or count no_count

-- The counts as numbers, `no_count` for an unknown one.
abbrev pub known_counts : List (Option ℕ) → List ℕ
known_counts shown = map stored shown

-- x is the count of the spot that shows p, or `None` if that count is not known.
abbrev pub IsCopied : Bounds → List ℕ → Place → Option ℕ → Type 0
IsCopied b counts p x = (s : Place) → Shows b s p → x ≡ known (count_on b counts s)

-- Searches have ended: relaxations lead from the old counts to the new, and none is left in the
-- tile.
pub record IsSearched (w : Window (Option ℤ)) (old new : List ℕ) : Type 0 where
  pub spread : IsSpread w old new
  pub settled : AreSettled w new

-- The counts of the window are the values of `entries` at the places that its spots show, as
-- numbers.
pub record AreWindowCounts (cols rows : ℕ) (entries : List (Option ℕ)) (b : Bounds)
    (counts : List ℕ) : Type 0 where
  pub shown : List (Option ℕ)
  pub size : length shown ≡ area_of b
  pub seen : AreShown (entry_or cols rows entries None) None b shown
  pub value : counts ≡ known_counts shown
