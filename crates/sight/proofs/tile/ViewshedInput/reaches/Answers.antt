use Rattle.std.proofs.lemmas.Bool.{OnFalse_at, OnFalse_from}
use Rattle.sightlines.proofs.Seen.{unseen}
use Rattle.sight.proofs.tile.ViewshedInput.reaches.Goals as goal

pub returns : goal.returns
returns c =
    let self = c.args.self.now in
    OnFalse_from c.is_any_in_reach.result _ (λ no p height inside.
    unseen self.grid.now.terrain c.args.observer.now p height self.radius
    (OnFalse_at no c.is_any_in_reach.ensures p inside))
