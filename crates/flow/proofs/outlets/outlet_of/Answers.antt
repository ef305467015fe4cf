use Rattle.std.proofs.Common.{arith}
use Rattle.flow.proofs.RimFlows.{target_is, targets_size, target_within}
use Rattle.flow.proofs.outlets.outlet_of.Goals as goal

pub bounds : goal.bounds
bounds g c = omega (arith, targets_size)

pub bounds-2 : goal.bounds-2
bounds-2 g c = omega (arith, c.requires.inside _ c.requires.number, targets_size)

pub returns-in_default : goal.returns-in_default
returns-in_default g c = rw (target_is _ _ c.requires.targets _ c.requires.number c.in_default.is)

pub returns-in_default-targets : goal.returns-in_default-targets
returns-in_default-targets g c = rw (
  target_is _ _ c.requires.targets _ c.requires.number c.in-Some.is,
  target_is _ _ c.requires.targets _ (c.requires.inside _ c.requires.number) c.in_default-targets.is,
)

pub exit_of-requires-clause-within : goal.exit_of-requires-clause-within
exit_of-requires-clause-within g c = (target_within c.requires.flows.1 _ _ (target_is _ _ c.requires.targets _
    (c.requires.inside _ c.requires.number) c.in-Some-targets.is)).1

pub returns : goal.returns
returns g c = rw (
  target_is _ _ c.requires.targets _ c.requires.number c.in-Some.is,
  target_is _ _ c.requires.targets _ (c.requires.inside _ c.requires.number) c.in-Some-targets.is,
) c.exit_of.ensures
