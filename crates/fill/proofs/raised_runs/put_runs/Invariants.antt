use Rattle.std.proofs.Common.{ℕ, ℤ, Option, take}
use Rattle.fill.specs.RaisedRuns.{AreRaised, IsInRuns, IsPatched}
use Rattle.fill.proofs.raised_runs.put_runs.Given as goal

abbrev pub invariant-loop-run : goal.invariant-loop-run
invariant-loop-run l = (raised : ℕ → Option ℤ) → AreRaised raised l.runs →
    IsPatched raised l.initial.cells (IsInRuns (take l.run-index l.runs)) l.cells
