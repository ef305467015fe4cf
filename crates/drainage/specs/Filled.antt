-- Paths to an edge cell or a named sink, and the filled height: the least crest of a cell's paths.
-- Source: textbook minimax filling; Jenson and Domingue (1988) raise depressions to that height.
-- Trust base.
use Rattle.std.specs.Prelude.{◌≡◌, ◌*◌, ℤ, ◌≤ℤ◌, List, [], ◌∷◌, length, Option, None, Some, MatchOption}
use Rattle.std.specs.Int.{int_max}
use Rattle.terrain.specs.Raster.{Terrain, Raster}
use Rattle.terrain.specs.Neighbours.{IsInside, height_at, height_of, entry_at, IsNeighbour, IsEnd}
use Rattle.terrain.specs.declared.place.Place.{Place}

-- A path is a first cell and the list of the cells after it. Each is a neighbour of the next, and
-- the last is an end cell.
abbrev pub IsPath : Terrain → Place → List Place → Type 0
IsPath t p [] = IsEnd t p
IsPath t p (q ∷ rest) = IsNeighbour t p q × IsPath t q rest

-- The greatest height on a path.
abbrev pub crest : Terrain → Place → List Place → ℤ
crest t p [] = height_of t p
crest t p (q ∷ rest) = int_max (height_of t p) (crest t q rest)

-- The filled height: some path from the cell has this crest, and none has a lower one.
pub record IsFilledHeight (t : Terrain) (p : Place) (level : ℤ) : Type 0 where
  pub reached : (rest : List Place) × IsPath t p rest × (crest t p rest ≡ level)
  pub least : (rest : List Place) → IsPath t p rest → level ≤ℤ crest t p rest

-- The list has, in row order, the filled height of each data cell, and `None` elsewhere.
pub record IsFilled (t : Terrain) (levels : List (Option ℤ)) : Type 0 where
  pub size : length levels ≡ t.cols * t.rows
  pub each : (p : Place) → IsInside t p →
      MatchOption (height_at t p) (entry_at t.cols t.rows levels p ≡ None)
      (λ _. (level : ℤ) × (entry_at t.cols t.rows levels p ≡ Some level) × IsFilledHeight t p level)

-- The height of each data cell of the grid is its filled height.
abbrev pub IsOwnFilled : Raster → Type 0
IsOwnFilled f = IsFilled f.terrain f.terrain.cells

-- Grid `f` is `g` with each height replaced by its filled height.
pub record IsFilledGrid (g f : Raster) : Type 0 where
  pub filled : IsFilled g.terrain f.terrain.cells
  pub rest : f ≡ record g { terrain = record g.terrain { cells = f.terrain.cells } }
