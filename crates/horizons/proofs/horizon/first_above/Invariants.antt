use Rattle.std.proofs.Common.{length, ◌-◌}
use Rattle.horizons.specs.Horizons.{AreUpTo}
use Rattle.horizons.proofs.horizon.first_above.Given as goal

abbrev pub invariant-loop-piece : goal.invariant-loop-piece
invariant-loop-piece l = AreUpTo l.pieces l.piece l.index

abbrev pub decreases-loop-piece : goal.decreases-loop-piece
decreases-loop-piece l = length l.pieces - l.piece
