use Rattle.std.proofs.Common.{◌≡◌, ◌+◌, ◌^◌, ◌<◌, ap, ◌∙◌, arith, rules}
use Rattle.flow.specs.Inflows.{rim_weight, through_by}
use Rattle.flow.proofs.RimFlows.{target_is, targets_size, target_from, within_of}
use Rattle.flow.proofs.RimTotals.{weight_few}
use Rattle.flow.proofs.CutPaths.{or_zero}
use Rattle.flow.proofs.inflows.weight_of.Goals as goal

pub bounds : goal.bounds
bounds c = omega (arith, targets_size)

pub returns-in_default : goal.returns-in_default
returns-in_default c = rw (target_is _ _ c.requires.targets _ c.requires.number c.in_default.is)

pub through_at-requires-clause-within : goal.through_at-requires-clause-within
through_at-requires-clause-within c =
    let x = target_from c.requires.flows.1 _ _ (target_is _ _ c.requires.targets _ c.requires.number c.in-Some.is) in
    rw c.rim_place.ensures (within_of c.requires.flows.1 x.crosses.coded)

pub returns : goal.returns
returns c = rw (target_is _ _ c.requires.targets _ c.requires.number c.in-Some.is)
    (ap (λ n. n + 1) (c.unwrap_or.ensures ∙ ap or_zero (c.through_at.ensures ∙
    ap (through_by c.args.tiling.now c.args.flows.now) c.rim_place.ensures)))

pub overflow_add-result : goal.overflow_add-result
overflow_add-result c =
    let weight : c.unwrap_or.result + 1 ≡ rim_weight c.args.tiling.now c.args.flows.now c.args.number =
    rw (target_is _ _ c.requires.targets _ c.requires.number c.in-Some.is) (ap (λ n. n + 1) (c.unwrap_or.ensures ∙
    ap or_zero (c.through_at.ensures ∙ ap (through_by c.args.tiling.now c.args.flows.now) c.rim_place.ensures))) in
    let fits : c.unwrap_or.result + 1 < 2 ^ 32 =
    omega (arith, weight_few c.requires.flows.1 c.requires.flows.2 c.args.number) in
    search rules
