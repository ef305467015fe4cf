use Rattle.std.proofs.Common.{rules, None, ap, map, ◌∙◌}
use mir.Val.{SFits}
use Rattle.std.proofs.lemmas.Int.{to_z-of_z}
use Rattle.std.proofs.lemmas.List.{get_or_default, take_all}
use Rattle.terrain.proofs.Heights.{height_width}
use Rattle.floods.specs.Notes.{height_or_lack}
use Rattle.floods.proofs.Noting.{mapped_more}
use Rattle.cell_floods.proofs.levels.numbers.Goals as goal

pub loop-cell-preserved : goal.loop-cell-preserved
loop-cell-preserved c =
    let fits : SFits height_width c.number.result = search rules in
    mapped_more height_or_lack c.args.cells.now c.loop-cell.cell-index None _ _
    c.number.result c.loop-cell-test.true c.loop-cell.invariant
    (rw (to_z-of_z height_width c.number.result fits) at c.in_ok-push.ensures.items)
    (c.number.ensures ∙ ap height_or_lack (c.cell-item.is ∙ get_or_default c.args.cells.now
    c.loop-cell.cell-index c.cell-item.result None c.loop-cell-test.true))

pub returns : goal.returns
returns c = c.loop-cell.invariant ∙ ap (map height_or_lack)
    (take_all c.loop-cell.cell-index c.args.cells.now c.loop-cell-test.false)
