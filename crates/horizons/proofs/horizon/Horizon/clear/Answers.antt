use Rattle.std.proofs.Common.{refl}
use Rattle.horizons.specs.Horizons.{target_count}
use Rattle.horizons.proofs.horizon.Horizon.clear.Goals as goal

pub invariant_of-self : goal.invariant_of-self
unfolding target_count
invariant_of-self c = rw c.clear.ensures.items refl
