use Rattle.std.specs.Prelude.{IsNone}
use Rattle.terrain.specs.Neighbours.{height_at}
use Rattle.terrain.proofs.Places.{HasNoGapBefore}
use Rattle.tiles.specs.Cutting.{terrain_of}
use Rattle.cell_floods.proofs.ends.has_gap.Given as goal

abbrev pub invariant-loop-row : goal.invariant-loop-row
invariant-loop-row l = HasNoGapBefore (λ q. IsNone (height_at (terrain_of l.view) q)) l.cell l.row 0
