-- The D8 direction of each cell of a filled terrain: the terrain's heights are filled heights.
-- Source: the D8 method of Jenson and Domingue (1988), with this project's ties and outlets.
-- Trust base.
use Rattle.std.specs.Prelude.{◌≡◌, ℕ, ◌+◌, ◌*◌, ◌≤◌, ◌||◌, ◌==◌, if◌then◌else◌, List, length, Option, None, Some, MatchOption}
use Rattle.std.specs.Int.{int_gap}
use Rattle.terrain.specs.Raster.{Terrain}
use Rattle.terrain.specs.Neighbours.{IsInside, height_at, entry_at, IsNeighbour, IsEnd, height_of}
use Rattle.terrain.specs.Ways.{place_toward}
use Rattle.terrain.specs.declared.place.Place.{Place}
use Rattle.drain.specs.Steps.{IsLower, HasLower, DrainsAtOnce, IsSteps}

-- The weight of the drop from p to a lower neighbour q: twice the square of drop over distance.
-- That is twice the drop's square along a row or column, and its square across a diagonal.
abbrev pub weight_of : Terrain → Place → Place → ℕ
weight_of t p q =
    let drop = int_gap (height_of t q) (height_of t p) in
    if p.row == q.row || p.col == q.col then 2 * (drop * drop) else drop * drop

-- Cell q is a lower neighbour of p of the greatest weight.
abbrev pub IsSteepest : Terrain → Place → Place → Type 0
IsSteepest t p q = IsLower t p q
    × ((other : Place) → IsLower t p other → weight_of t p other ≤ weight_of t p q)

-- Cell q is a neighbour of p of equal height, with one step fewer.
abbrev pub IsOnward : Terrain → Place → Place → Type 0
IsOnward t p q = IsNeighbour t p q × (height_at t q ≡ height_at t p) × (n : ℕ) × IsSteps t q n
    × IsSteps t p (n + 1)

-- The code is the smallest that points from p to a place for which `IsSuch` holds.
pub record PointsToFirst (IsSuch : Place → Type 0) (p : Place) (code : ℕ) : Type 0 where
  pub one : (q : Place) × (place_toward code p ≡ Some q) × IsSuch q
  pub first : (other : ℕ) (q : Place) → place_toward other p ≡ Some q → IsSuch q → code ≤ other

-- The direction of a data cell leads to a steepest lower neighbour, if it has a lower one. If not,
-- an end cell is an outlet, with the direction 0. The direction of any other cell leads to a
-- neighbour of equal height with one step fewer. Ties take the least code.
pub record IsDirection (t : Terrain) (p : Place) (code : ℕ) : Type 0 where
  pub steepest : HasLower t p → PointsToFirst (IsSteepest t p) p code
  pub outlet : (HasLower t p → ⊥) → IsEnd t p → code ≡ 0
  pub onward : (DrainsAtOnce t p → ⊥) → PointsToFirst (IsOnward t p) p code

-- The code is the direction of a data cell, or `None` where there is no data.
abbrev pub IsCodeAt : Terrain → Place → Option ℕ → Type 0
IsCodeAt t p code = MatchOption (height_at t p) (code ≡ None)
    (λ _. (n : ℕ) × (code ≡ Some n) × IsDirection t p n)

-- The list has the direction of each data cell in row order, and `None` where there is no data.
pub record AreDirections (t : Terrain) (codes : List (Option ℕ)) : Type 0 where
  pub size : length codes ≡ t.cols * t.rows
  pub each : (p : Place) → IsInside t p → IsCodeAt t p (entry_at t.cols t.rows codes p)
