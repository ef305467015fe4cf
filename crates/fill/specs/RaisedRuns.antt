-- Runs of cells that rise to one height. Cells are given by their indexes in row order of the grid,
-- and `raised` gives the raised cell of each index.
-- Private.
use Rattle.std.specs.Prelude.{◌≡◌, ◌⊎◌, ℕ, ◌+◌, ◌<◌, ◌≤◌, ℤ, List, [], ◌∷◌, ◌++◌, length, Option, None, slice_index_or, Vec}
use Rattle.std.specs.declared.alloc.Global.{Global}
use Rattle.std.specs.List.{Contains}
use Rattle.fill.specs.declared.raised_runs.RaisedRun.{RaisedRun}
use Rattle.fill.specs.declared.raised_runs.RunList.{RunList}

-- All runs of a list: those that have ended, and the last.
abbrev pub runs_of : RunList → List RaisedRun
runs_of l = l.ended.items ++ l.last ∷ []

-- Cell i is in the run.
abbrev pub IsInRun : RaisedRun → ℕ → Type 0
IsInRun r i = (r.first ≤ i) × (i < r.first + r.count)

-- Cell i is in one of the runs.
abbrev pub IsInRuns : List RaisedRun → ℕ → Type 0
IsInRuns runs i = (r : RaisedRun) × Contains runs r × IsInRun r i

-- Each run has the raised cell of all its cells.
abbrev pub AreRaised : (ℕ → Option ℤ) → List RaisedRun → Type 0
AreRaised raised runs =
    (r : RaisedRun) (i : ℕ) → Contains runs r → IsInRun r i → r.cell ≡ raised i

-- Cell i is in one of the runs, or its raised cell is the cell read.
abbrev pub IsFound : (ℕ → Option ℤ) → List RaisedRun → Option ℤ → ℕ → Type 0
IsFound raised runs read i = IsInRuns runs i ⊎ (read ≡ raised i)

-- Cell i, which rises to `cell`, was added to the runs.
pub record AddsRun (i : ℕ) (cell : Option ℤ) (old new : List RaisedRun) : Type 0 where
  pub kept : (k : ℕ) → IsInRuns old k → IsInRuns new k
  pub added : IsInRuns new i
  pub sound : (raised : ℕ → Option ℤ) → cell ≡ raised i → AreRaised raised old →
      AreRaised raised new

-- Of the first `count` cells of a row, those that rise were added. `read` has the row's cells as
-- read, of which the first has index `first`.
pub record AddsRow (raised : ℕ → Option ℤ) (read : List (Option ℤ)) (first count : ℕ)
    (old new : List RaisedRun) : Type 0 where
  pub kept : (k : ℕ) → IsInRuns old k → IsInRuns new k
  pub sound : AreRaised raised old → AreRaised raised new
  pub each : (k : ℕ) → k < count → IsFound raised new (slice_index_or read k None) (first + k)

-- The run's cell was put at all its indexes in the list.
pub record PutsRun (r : RaisedRun) (old new : List (Option ℤ)) : Type 0 where
  pub size : length new ≡ length old
  pub inside : (i : ℕ) → i < length old → IsInRun r i → slice_index_or new i None ≡ r.cell
  pub outside : (i : ℕ) → (IsInRun r i → ⊥) →
      slice_index_or new i None ≡ slice_index_or old i None

-- The runs of all tiles, each tile's in a list of its own, have the raised cell of all their cells.
abbrev pub AreAllRaised : (ℕ → Option ℤ) → List (Vec RaisedRun Global) → Type 0
AreAllRaised raised tiles =
    (runs : Vec RaisedRun Global) → Contains tiles runs → AreRaised raised runs.items

-- Cell i is in one of the runs of all tiles.
abbrev pub IsInTiles : List (Vec RaisedRun Global) → ℕ → Type 0
IsInTiles tiles i = (runs : Vec RaisedRun Global) × Contains tiles runs × IsInRuns runs.items i

-- Each cell of which `IsIn` holds is its raised cell. The others are as they were.
pub record IsPatched (raised : ℕ → Option ℤ) (old : List (Option ℤ)) (IsIn : ℕ → Type 0)
    (new : List (Option ℤ)) : Type 0 where
  pub size : length new ≡ length old
  pub each : (i : ℕ) → i < length old → (IsIn i × (slice_index_or new i None ≡ raised i))
      ⊎ ((slice_index_or new i None ≡ slice_index_or old i None) × (IsIn i → ⊥))
