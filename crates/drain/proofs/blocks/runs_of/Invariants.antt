use Rattle.std.proofs.Common.{◌≡◌, ◌≤◌, All, length}
use Rattle.drain.specs.Counts.{IsRun}
use Rattle.drain.proofs.blocks.runs_of.Given as goal

abbrev pub invariant-loop-tile : goal.invariant-loop-tile
invariant-loop-tile l = record {
  size : length l.runs.items ≡ l.tile;
  each : All (IsRun (length l.entries)) l.runs.items;
  from : l.from ≤ length l.entries;
}
