use Rattle.std.proofs.Common.{refl}
use Rattle.horizons.specs.Horizons.{target_count}
use Rattle.horizons.proofs.horizon.Horizon.new.Goals as goal

pub invariant_of-result : goal.invariant_of-result
unfolding target_count
invariant_of-result c = rw c.new.ensures.items refl
