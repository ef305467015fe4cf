-- Crests of labels: levels at which water leaves them. A label is given by its number, and `places`
-- has the place of each number's label.
-- Private.
use Rattle.std.specs.Prelude.{◌≡◌, ℕ, ◌+◌, ◌<◌, ◌↔◌, ℤ, ◌≤ℤ◌, List, length, Option, None, Some, slice_get, slice_index_or, Vec}
use Rattle.std.specs.declared.alloc.Global.{Global}
use Rattle.std.specs.List.{All}
use Rattle.terrain.specs.Raster.{Terrain}
use Rattle.terrain.specs.declared.place.Place.{Place}
use Rattle.drainage.specs.Filled.{IsPath, crest}
use Rattle.cell_floods.specs.TileFlood.{Flood, IsMeeting}
use Rattle.cell_floods.specs.declared.tile.Meeting.{Meeting}
use Rattle.fill.specs.declared.spill_graph.Join.{Join}

-- Some path from the place of label `a` to an end cell has a crest of at most `level`.
abbrev pub Leaves : Terrain → List (Option Place) → ℕ → ℤ → Type 0
Leaves t places a level = (p : Place) × (slice_index_or places a None ≡ Some p)
    × ((rest : List Place) × IsPath t p rest × (crest t p rest ≤ℤ level))

-- Water leaves each label that has a crest at that level.
abbrev pub AreCrests : Terrain → List (Option Place) → List (Option ℤ) → Type 0
AreCrests t places crests =
    (a : ℕ) (level : ℤ) → slice_index_or crests a None ≡ Some level → Leaves t places a level

-- From the height of the join on, water leaves either of its labels where it leaves the other.
abbrev pub IsPassage : Terrain → List (Option Place) → Join → Type 0
IsPassage t places j = (level : ℤ) → j.height ≤ℤ level →
    Leaves t places j.from level ↔ Leaves t places j.to level

abbrev pub ArePassages : Terrain → List (Option Place) → List Join → Type 0
ArePassages t places joins = All (IsPassage t places) joins

-- `next` has the next label of each label's ring. From the level `now` on, water leaves that next
-- label where it leaves the label.
abbrev pub AreRings : Terrain → List (Option Place) → ℤ → List ℕ → Type 0
AreRings t places now next = (a : ℕ) (level : ℤ) → a < length next → now ≤ℤ level →
    Leaves t places a level → Leaves t places (slice_index_or next a 0) level

-- A number without a place has no crest.
abbrev pub HasNoCrestWithoutPlace : List (Option Place) → List (Option ℤ) → Type 0
HasNoCrestWithoutPlace places crests =
    (a : ℕ) → slice_index_or places a None ≡ None → slice_index_or crests a None ≡ None

-- The join of a meeting in a tile whose table of labels begins at number `first`.
abbrev pub numbered : ℕ → Meeting → Join
numbered first m = record { from = first + m.from; to = first + m.to; height = m.level }

-- `meetings` has, for each tile, meetings of the labels of its flood.
pub record AreMet (t : Terrain) (floods : List Flood)
    (meetings : List (Vec Meeting Global)) : Type 0 where
  pub count : length meetings ≡ length floods
  pub each : (tile : ℕ) (f : Flood) (met : Vec Meeting Global) → slice_get floods tile ≡ Some f →
      slice_get meetings tile ≡ Some met → All (IsMeeting t f) met.items
