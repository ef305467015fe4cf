use Rattle.std.specs.Prelude.{IsNone}
use Rattle.terrain.specs.Neighbours.{height_at}
use Rattle.terrain.proofs.Places.{HasNoGapBefore}
use Rattle.terrain.proofs.grid.Grid.has_gap_around.Given as goal

abbrev pub invariant-loop-col : goal.invariant-loop-col
invariant-loop-col l = HasNoGapBefore (λ q. IsNone (height_at l.self.terrain q)) l.place l.row l.col

abbrev pub invariant-loop-row : goal.invariant-loop-row
invariant-loop-row l = HasNoGapBefore (λ q. IsNone (height_at l.self.terrain q)) l.place l.row 0
