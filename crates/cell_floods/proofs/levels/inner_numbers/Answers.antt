use Rattle.std.proofs.Common.{rules, ◌≡◌, ap, map, sym, ◌∙◌}
use Rattle.floods.specs.Notes.{height_or_lack}
use Rattle.cell_floods.specs.Cells.{inner_rows}
use Rattle.cell_floods.proofs.InnerRows.{inner_rows-map}
use Rattle.cell_floods.proofs.levels.inner_numbers.Goals as goal

pub returns : goal.returns
returns g c =
    let stored = g.N.HeightAbove.stored c.args.lowest in
    let same : map stored c.in-Some.above.items ≡ map height_or_lack c.args.levels.now = search rules in
    ap (map stored) c.in_ok-without_border.ensures
    ∙ ap (λ z. map stored (inner_rows z c.args.cols c.args.rows)) c.deref.ensures.value
    ∙ sym (inner_rows-map stored c.in-Some.above.items c.args.cols c.args.rows)
    ∙ ap (λ z. inner_rows z c.args.cols c.args.rows) same
    ∙ inner_rows-map height_or_lack c.args.levels.now c.args.cols c.args.rows
