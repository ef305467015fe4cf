-- The map of directions that the codes of a whole grid make.
-- Public.
use Rattle.std.specs.Prelude.{◌≡◌, ℕ, ◌*◌, Bool, false, ◌==◌, List, length, Option}
use Rattle.std.specs.Option.{option_map_or}
use Rattle.tiles.specs.Cutting.{Cutting}
use Rattle.drainage.specs.Following.{Directed}
use Rattle.drainage.specs.Drained.{AllFlowEnds}

-- The map of directions with these codes.
abbrev pub make_directed : ℕ → ℕ → List (Option ℕ) → Directed
make_directed cols rows codes = record { cols = cols; rows = rows; codes = codes }

-- The map of directions with these codes, on a grid that is cut into tiles.
abbrev pub directed_on : Cutting → List (Option ℕ) → Directed
directed_on t codes = make_directed t.cols t.rows codes

-- The codes of a grid of this size, in which each flow path ends.
pub record IsGridFlow (cols rows : ℕ) (codes : List (Option ℕ)) : Type 0 where
  pub size : length codes ≡ cols * rows
  pub ends : AllFlowEnds (make_directed cols rows codes)

-- The code is 0, an outlet's.
abbrev pub is_outlet_code : Option ℕ → Bool
is_outlet_code code = option_map_or (λ c. c == 0) code false
