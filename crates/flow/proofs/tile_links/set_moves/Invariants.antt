use Rattle.flow.proofs.Moved.{AreMovesUpTo}
use Rattle.flow.proofs.tile_links.set_moves.Given as goal

abbrev pub invariant-loop-side : goal.invariant-loop-side
invariant-loop-side l = AreMovesUpTo l.bounds l.cells l.side l.moves
