use Rattle.std.proofs.Common.{ℕ, ℤ, Option}
use Rattle.fill.specs.RaisedRuns.{runs_of}
use Rattle.fill.specs.RaisedTiles.{HasTile}
use Rattle.fill.proofs.RaisedRuns.{AreFirstRows}
use Rattle.fill.proofs.raised_tiles.RaisedTile.runs.Given as goal

abbrev pub invariant-loop-row : goal.invariant-loop-row
invariant-loop-row l = (raised : ℕ → Option ℤ) → HasTile l.self raised l.view.cutting l.view.tile →
    AreFirstRows raised l.view l.row (runs_of l.runs)
