-- Flow paths: the cells met by following directions, up to an outlet.
-- Source: Jenson and Domingue (1988).
-- Trust base.
use Rattle.std.specs.Prelude.{◌≡◌, ℕ, zero, suc, ◌*◌, List, Option, Some, unwrap_or, option_and_then}
use Rattle.terrain.specs.Neighbours.{entry_at}
use Rattle.terrain.specs.Ways.{place_toward}
use Rattle.terrain.specs.declared.place.Place.{Place}

-- A map of directions: a list of codes in row order, `None` where there is no data.
pub record Directed : Type 0 where
  pub cols : ℕ
  pub rows : ℕ
  pub codes : List (Option ℕ)

-- The code at a place; `None` outside the grid and where there is no data.
abbrev pub code_at : Directed → Place → Option ℕ
code_at d p = entry_at d.cols d.rows d.codes p

-- The place that the code of p points to; p itself if p has no code or a code that points to no
-- place.
abbrev pub next : Directed → Place → Place
next d p = unwrap_or (option_and_then (λ code. place_toward code p) (code_at d p)) p

-- The cell reached from p after this number of moves.
abbrev pub follow : Directed → Place → ℕ → Place
follow d p zero = p
follow d p (suc k) = next d (follow d p k)

-- The number of cells. A flow path that reaches an outlet makes fewer moves than this.
abbrev pub moves : Directed → ℕ
moves d = d.cols * d.rows

-- The cell reached from p after `moves` moves. If the flow path of p ends, it ends there.
abbrev pub last_of : Directed → Place → Place
last_of d p = follow d p (moves d)

-- The cell has code 0, so it is an outlet.
abbrev pub IsOutlet : Directed → Place → Type 0
IsOutlet d p = code_at d p ≡ Some 0

-- The flow path of p ends at an outlet.
abbrev pub FlowEnds : Directed → Place → Type 0
FlowEnds d p = IsOutlet d (last_of d p)
