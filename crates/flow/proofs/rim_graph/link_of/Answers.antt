use Rattle.std.proofs.Common.{ap, ◌∙◌, arith}
use Rattle.flow.specs.RimGraph.{number_or}
use Rattle.flow.proofs.RimFlows.{target_is, targets_size, target_within, next_exit_within}
use Rattle.flow.proofs.rim_graph.link_of.Goals as goal

pub bounds : goal.bounds
bounds g c = omega (arith, targets_size)

pub returns-in_default : goal.returns-in_default
returns-in_default g c = rw (target_is _ _ c.requires.targets _ c.requires.number c.in_default.is)

pub next_exit-requires-clause-within : goal.next_exit-requires-clause-within
next_exit-requires-clause-within g c = (target_within c.requires.flows.1 _ _
    (target_is _ _ c.requires.targets _ c.requires.number c.in-Some.is)).1

pub rim_number-requires : goal.rim_number-requires
rim_number-requires g c =
    next_exit_within c.requires.flows.1 _ _ (target_within c.requires.flows.1 _ _
    (target_is _ _ c.requires.targets _ c.requires.number c.in-Some.is)).1 (cc)

pub returns-in-Some-next_exit : goal.returns-in-Some-next_exit
returns-in-Some-next_exit g c =
    rw (target_is _ _ c.requires.targets _ c.requires.number c.in-Some.is) (c.rim_number.ensures.value ∙
    ap (number_or c.args.tiling.now c.args.number) c.in-Some-next_exit.ensures)

pub returns-in-None : goal.returns-in-None
returns-in-None g c = rw (target_is _ _ c.requires.targets _ c.requires.number c.in-Some.is)
    (ap (number_or c.args.tiling.now c.args.number) c.in-None.ensures)
