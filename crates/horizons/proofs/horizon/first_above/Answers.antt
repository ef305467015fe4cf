use Rattle.std.proofs.Common.{arith}
use Rattle.horizons.proofs.Pieces.{inside, passed, ends_above}
use Rattle.horizons.proofs.horizon.first_above.Goals as goal

pub offset_bounds-pieces-piece : goal.offset_bounds-pieces-piece
offset_bounds-pieces-piece c = omega (
  arith,
  inside c.args.pieces.now c.loop-piece.piece c.args.index c.loop-piece.invariant c.requires.index,
)

pub bounds-pieces-piece : goal.bounds-pieces-piece
bounds-pieces-piece c = inside _ _ c.args.index c.loop-piece.invariant c.requires.index

pub overflow_add-piece : goal.overflow_add-piece
overflow_add-piece c = omega (
  arith,
  inside c.args.pieces.now c.loop-piece.piece c.args.index c.loop-piece.invariant c.requires.index,
)

pub loop-piece-smaller : goal.loop-piece-smaller
loop-piece-smaller c = omega (
  arith,
  inside c.args.pieces.now c.loop-piece.piece c.args.index c.loop-piece.invariant c.requires.index,
)

pub loop-piece-preserved : goal.loop-piece-preserved
loop-piece-preserved c =
    passed _ _ _ _ c.loop-piece.invariant (inside _ _ c.args.index c.loop-piece.invariant c.requires.index)
    c.loop-piece-test.true

pub returns-clause-above : goal.returns-clause-above
returns-clause-above c p at = ends_above c.args.pieces.now c.loop-piece.piece _ _ p c.loop-piece-test.false at
