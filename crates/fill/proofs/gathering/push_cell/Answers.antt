use Rattle.std.proofs.Common.{ap, sym, ◌∙◌, refl}
use Rattle.terrain.proofs.Options.{none_some}
use Rattle.fill.specs.Gathering.{cell_label_among}
use Rattle.fill.proofs.Adding.{adds_four, adds_none}
use Rattle.fill.proofs.gathering.push_cell.Goals as goal

pub returns-in_default : goal.returns-in_default
returns-in_default c =
    let cell_labels = cell_label_among c.args.tiles.now.tiling.now c.args.tiles.now.floods.now in
    adds_none _ refl
    (λ p q j at m. none_some _ _ (ap cell_labels at ∙ sym c.cell_label.ensures ∙ c.in_default.is) m.from_is)

pub returns : goal.returns
returns c =
    adds_four _ _ _ _ _ _ c.in_ok-push_on_way.ensures c.in_ok-push_on_way-2.ensures c.in_ok-push_on_way-3.ensures
    c.in_ok-push_on_way-4.ensures
