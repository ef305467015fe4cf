use Rattle.std.proofs.Common.{ℕ, ℤ, Option, take}
use Rattle.fill.specs.RaisedRuns.{AreAllRaised, IsInTiles, IsPatched}
use Rattle.fill.proofs.raised_runs.put_all.Given as goal

abbrev pub invariant-loop-runs : goal.invariant-loop-runs
invariant-loop-runs l = (raised : ℕ → Option ℤ) → AreAllRaised raised l.tiles →
    IsPatched raised l.initial.cells (IsInTiles (take l.runs-index l.tiles)) l.cells
