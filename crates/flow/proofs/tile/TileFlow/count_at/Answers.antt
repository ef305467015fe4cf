use Rattle.std.proofs.Common.{◌-◌, ◌<◌, length, get_or, None, ap, ◌∙◌, arith}
use Rattle.std.proofs.lemmas.List.{get_or_default}
use Rattle.flow.proofs.Listed.{made_at}
use Rattle.flow.proofs.tile.TileFlow.count_at.Goals as goal

pub returns : goal.returns
returns c =
    let codes = c.self.inside.exits.codes in
    let totals = c.self.inside.totals.items in
    let below : c.args.index < length c.self.inside.exits.codes =
    omega (arith, ap (λ f. length f.codes) c.self.view_is) in
    let there : c.args.index < length c.self.inside.totals.items = omega arith in
    rw (← c.self.view_is) (c.where_data.ensures ∙ made_at codes (λ i. get_or totals i 0 - 1) _ _ _ _ below below
    (cc (get_or_default codes c.args.index None _ below))
    (cc (get_or_default totals c.args.index c.index.result.now 0 there)))
