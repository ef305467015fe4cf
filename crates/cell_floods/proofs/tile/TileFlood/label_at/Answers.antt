use Rattle.std.proofs.Common.{◌≡◌, pos, ℤ, get_or, Option, None, Some, option_map, is_none, sym, ap, refl, ◌∙◌}
use Rattle.terrain.specs.declared.place.Place.{Place}
use Rattle.cell_floods.proofs.Where.{level_shown}
use Rattle.cell_floods.proofs.tile.TileFlood.label_at.Goals as goal

none_mapped : (label : Option Place) (height : ℤ) →
    is_none (option_map (λ _. height) label) ≡ is_none label
none_mapped None height = refl
none_mapped (Some label) height = refl

pub returns-clause-level : goal.returns-clause-level
returns-clause-level c =
    let x = c.self.inside in
    let heights = x.heights in
    let i = c.args.index in
    let shown = level_shown x.bounds heights x.labels x.ends.items _ i c.self.view_is x.whole in
    sym (none_mapped c.at.result (get_or heights i (pos 0))) ∙ ap is_none (sym (shown.1
    ∙ ap (option_map (λ _. get_or heights i (pos 0))) (sym c.at.ensures)))
