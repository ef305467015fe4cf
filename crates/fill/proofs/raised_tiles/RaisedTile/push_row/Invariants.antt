use Rattle.std.proofs.Common.{◌≤◌, ◌-◌, ℕ, ℤ, Option, length}
use Rattle.fill.specs.RaisedRuns.{AddsRow, runs_of}
use Rattle.fill.specs.RaisedTiles.{HasRow}
use Rattle.fill.proofs.raised_tiles.RaisedTile.push_row.Given as goal

abbrev pub invariant-loop-index : goal.invariant-loop-index
invariant-loop-index l = record {
  within : l.index ≤ length l.read;
  adds : (raised : ℕ → Option ℤ) → HasRow l.self raised l.start l.first (length l.read) →
      AddsRow raised l.read l.first l.index (runs_of l.initial.runs) (runs_of l.runs);
}

abbrev pub decreases-loop-index : goal.decreases-loop-index
decreases-loop-index l = length l.read - l.index
