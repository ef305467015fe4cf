use Rattle.std.proofs.Common.{rules, pos, inl, inr, is_some, get_or, None, Some, option_map, sym, ap, ◌∙◌}
use mir.Val.{SFits}
use Rattle.std.proofs.lemmas.Int.{to_z-of_z}
use Rattle.terrain.proofs.Heights.{height_width}
use Rattle.terrain.proofs.Options.{cases_option}
use Rattle.cell_floods.specs.Labels.{labels_by}
use Rattle.cell_floods.proofs.Where.{level_shown}
use Rattle.cell_floods.proofs.tile.TileFlood.level_at.Goals as goal

pub returns-then-has-clause-value : goal.returns-then-has-clause-value
returns-then-has-clause-value c =
    let x = c.self.inside in
    let heights = x.heights in
    let i = c.args.index in
    let label = get_or (labels_by x.labels.places x.labels.indexes) c.args.index None in
    let shown = level_shown x.bounds heights x.labels x.ends.items _ i c.self.view_is x.whole in
    let fits : SFits height_width c.at.result = search rules in
    rw (to_z-of_z height_width c.at.result fits) (elim (cases_option label) [
      | inl none ↦ absurd (cc (c.if-has.true, c.has.ensures, ap is_some none))
      | inr found ↦
          ap Some c.at.ensures ∙ sym (shown.1 ∙ ap (option_map (λ _. get_or heights i (pos 0))) found.1)
    ])

pub returns-else-has-clause-value : goal.returns-else-has-clause-value
returns-else-has-clause-value c =
    let x = c.self.inside in
    let heights = x.heights in
    let i = c.args.index in
    let label = get_or (labels_by x.labels.places x.labels.indexes) c.args.index None in
    let shown = level_shown x.bounds heights x.labels x.ends.items _ i c.self.view_is x.whole in
    elim (cases_option label) [
      | inl none ↦ sym (shown.1 ∙ ap (option_map (λ _. get_or heights i (pos 0))) none)
      | inr found ↦ absurd (cc (c.if-has.false, c.has.ensures, ap is_some found.1))
    ]
