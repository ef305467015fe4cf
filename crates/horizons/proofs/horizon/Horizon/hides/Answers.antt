use Rattle.std.proofs.Common.{arith}
use Rattle.horizons.proofs.horizon.Horizon.hides.Goals as goal

pub hides-requires-clause-at : goal.hides-requires-clause-at
hides-requires-clause-at c = c.requires.at _ (c.piece.ensures.ramp _ (omega arith) (omega arith))
