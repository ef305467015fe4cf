use Rattle.std.proofs.Common.{rules, arith, ◌≡◌, None, get_or, pos, ◌+ℤ◌, ap, sym, ◌∙◌, unwrap_or}
use Rattle.std.specs.Int.{w64}
use Rattle.std.proofs.lemmas.Int.{to_z-of_z}
use Rattle.terrain.specs.Neighbours.{height_at}
use Rattle.sightlines.specs.Sight.{place_of}
use Rattle.sightlines.specs.Walk.{AreHeights}
use Rattle.sightlines.proofs.Heights.{are_heights, ground_is_height, kept}
use Rattle.sightlines.proofs.Crossings.{height_is}
use Rattle.sight.proofs.ClearLines.{column_tops, row_tops}
use Rattle.sight.proofs.tile.ViewshedInput.axes.Goals as goal

pub elevation-requires-clause-height : goal.elevation-requires-clause-height
elevation-requires-clause-height c =
    let are : AreHeights c.cells.result.now =
    rw c.cells.ensures.value (are_heights c.args.self.now.grid.now.terrain c.cells.ensures.lawful.terrain) in
    kept c.unwrap_or.result (rw c.unwrap_or.ensures
    (ground_is_height c.height_at-ground.result (λ h is. are _ h (sym c.height_at-ground.ensures ∙ is))))

pub returns-clause-eye : goal.returns-clause-eye
returns-clause-eye c =
    let t = c.args.self.now.grid.now.terrain in
    let o = c.args.observer.now in
    let p = place_of o in
    let index = rw c.cols-cols.ensures.value at c.index_in.ensures in
    let at : get_or c.cells.result.now c.index_in.result None ≡ height_at t p =
    rw c.cells.ensures.value (sym (height_is t _ _ _ c.requires.observer.0 c.requires.observer.1 index)) in
    let elevation = rw (to_z-of_z w64 c.unwrap_or.result (search rules)) at c.elevation.ensures.value in
    to_z-of_z w64 c.elevation.result (search rules) ∙ elevation ∙
    ap (λ z. z +ℤ pos o.eye) (c.unwrap_or.ensures ∙ ap (λ h. unwrap_or h (pos 0)) c.height_at-ground.ensures ∙
    ap (λ h. unwrap_or h (pos 0)) at)

pub returns-clause-column_tops : goal.returns-clause-column_tops
returns-clause-column_tops c =
    let self = c.args.self.now in
    let lawful = c.cells.ensures.lawful.terrain in
    rw (c.blocks_in-blocks.ensures, c.cols-cols.ensures.value) (column_tops self.grid.now.terrain c.args.bounds
    (place_of c.args.observer.now) _ self.tops.now.near.items lawful.few_cols lawful.few_rows
    c.requires.observer (omega (arith, c.requires.inside.rows_inside, self.cut))
    (omega (arith, c.requires.inside.cols_inside, self.cut)) self.topped.near)

pub returns-clause-row_tops : goal.returns-clause-row_tops
returns-clause-row_tops c =
    let self = c.args.self.now in
    let lawful = c.cells.ensures.lawful.terrain in
    rw (c.blocks_in-blocks.ensures, c.cols-cols.ensures.value, c.rows.ensures.value)
    (row_tops self.grid.now.terrain c.args.bounds (place_of c.args.observer.now) _ self.tops.now.near.items
    lawful.few_cols lawful.few_rows c.requires.observer (omega (arith, c.requires.inside.rows_inside, self.cut))
    (omega (arith, c.requires.inside.cols_inside, self.cut)) self.topped.near)
