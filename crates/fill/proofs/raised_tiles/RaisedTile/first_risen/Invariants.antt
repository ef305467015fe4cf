use Rattle.std.proofs.Common.{◌≡◌, ◌+◌, ◌<◌, ◌≤◌, ℕ, None, get_or}
use Rattle.fill.specs.RaisedTiles.{cell_at}
use Rattle.fill.proofs.raised_tiles.RaisedTile.first_risen.Given as goal

abbrev pub invariant-loop-index : goal.invariant-loop-index
invariant-loop-index l = (k : ℕ) → l.from ≤ k → k < l.index → get_or l.read k None ≡ cell_at l.self (l.start + k)
