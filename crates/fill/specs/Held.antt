-- The certificate of raised cells: those that rose are held, the others are as they were read.
-- Private.
use Rattle.std.specs.Prelude.{◌≡◌, ℕ, ◌+◌, ◌%◌, ◌<◌, ◌≤◌, ℤ, ◌≤ℤ◌, List, length, Option, None, Some, slice_index_or, Vec}
use Rattle.std.specs.declared.alloc.Global.{Global}
use Rattle.std.specs.List.{All}
use Rattle.terrain.specs.Neighbours.{index_of}
use Rattle.terrain.specs.Ways.{around_index}
use Rattle.terrain.specs.declared.place.Place.{Place}
use Rattle.fill.specs.RaisedRuns.{IsInRuns, IsInTiles}
use Rattle.fill.specs.declared.raised_runs.RaisedRun.{RaisedRun}

-- The cell at index i and the eight around it have data, and none of these is lower.
pub record IsNoLowerAround (cols : ℕ) (cells : List (Option ℤ)) (i : ℕ) : Type 0 where
  pub level : ℤ
  pub is : slice_index_or cells i None ≡ Some level
  pub around : (way : ℕ) → way < 8 → (near : ℤ)
      × (slice_index_or cells (slice_index_or (around_index cols i) way 0) None ≡ Some near)
      × (level ≤ℤ near)

-- A cell that is in no first or last row or column, and `IsNoLowerAround`.
pub record IsHeld (cols : ℕ) (cells : List (Option ℤ)) (i : ℕ) : Type 0 where
  pub after : cols ≤ i
  pub before : i + cols < length cells
  pub left : 0 < i % cols
  pub right : i % cols + 1 < cols
  pub around : IsNoLowerAround cols cells i

abbrev pub AreHeldRuns : ℕ → List (Option ℤ) → List RaisedRun → Type 0
AreHeldRuns cols cells runs = (i : ℕ) → IsInRuns runs i → IsHeld cols cells i

abbrev pub AreHeldTiles : ℕ → List (Option ℤ) → List (Vec RaisedRun Global) → Type 0
AreHeldTiles cols cells tiles = (i : ℕ) → IsInTiles tiles i → IsHeld cols cells i

-- The cells at these places are as they were read.
abbrev pub AreAsRead : ℕ → List (Option ℤ) → List (Option ℤ) → List Place → Type 0
AreAsRead cols read cells places =
    All (λ p. slice_index_or cells (index_of cols p) None
    ≡ slice_index_or read (index_of cols p) None) places
