use Rattle.std.proofs.Common.{sym, ◌∙◌}
use Rattle.std.proofs.lemmas.Bool.{OnFalse_from}
use Rattle.terrain.proofs.Places.{make_place}
use Rattle.sight.proofs.Far.{all_far}
use Rattle.sight.proofs.reach.is_any_in_reach.Goals as goal

pub returns : goal.returns
returns c =
    OnFalse_from c.is_in_reach.result _ (λ far p inside.
    all_far c.args.eye (make_place c.clamp.result c.clamp-2.result) p _ c.args.radius c.clamp.ensures
    c.clamp-2.ensures (sym c.is_in_reach.ensures ∙ far) inside)
