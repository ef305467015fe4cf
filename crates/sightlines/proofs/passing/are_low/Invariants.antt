use Rattle.std.proofs.Common.{ℕ, ◌+◌, ◌*◌, ◌<◌, None, slice_index_or}
use Rattle.sightlines.specs.Blocks.{IsLow}
use Rattle.sightlines.proofs.passing.are_low.Given as goal

abbrev pub invariant-loop-i : goal.invariant-loop-i
invariant-loop-i l = (k : ℕ) → k < l.i →
    IsLow (slice_index_or l.tops (l.first + k * l.stride) None) l.weight l.sight
