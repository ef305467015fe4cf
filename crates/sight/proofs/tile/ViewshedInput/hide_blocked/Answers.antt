use Rattle.std.proofs.Common.{rules, arith, ◌+◌, ◌≤◌, not, pos, ◌+ℤ◌}
use Rattle.std.specs.Int.{w64}
use Rattle.std.proofs.lemmas.Int.{to_z-of_z}
use Rattle.std.proofs.lemmas.Result.{on_ok_weaker}
use Rattle.terrain.specs.Neighbours.{height_of}
use Rattle.terrain.specs.declared.place.Place.{Place}
use Rattle.sightlines.specs.Sight.{column_blocks, row_blocks, place_of}
use Rattle.sight.specs.Sides.{columns_at, rows_at, eye_of, AreOpen, family_of, extent_of}
use Rattle.sightlines.proofs.Heights.{are_heights}
use Rattle.sight.proofs.PlacesLeft.{column_flags, row_flags, columns_left, rows_left, left_both}
use Rattle.sight.proofs.tile.ViewshedInput.hide_blocked.Goals as goal

pub hide_on_both_sides-requires-clause-heights : goal.hide_on_both_sides-requires-clause-heights
hide_on_both_sides-requires-clause-heights c =
    rw c.cells-cells.ensures.value (are_heights _ c.cells-cells.ensures.lawful.terrain)

pub hide_on_both_sides-requires-2-clause-heights : goal.hide_on_both_sides-requires-2-clause-heights
hide_on_both_sides-requires-2-clause-heights c =
    rw c.cells-cells.ensures.value (are_heights _ c.cells-cells.ensures.lawful.terrain)

pub hide_on_both_sides-requires-clause-tops : goal.hide_on_both_sides-requires-clause-tops
hide_on_both_sides-requires-clause-tops c =
    rw (c.cells-cells.ensures.value, c.deref.ensures.value, to_z-of_z w64 c.axes-axes.result.eye (search rules))
    c.axes-axes.ensures.column_tops

pub hide_on_both_sides-requires-2-clause-tops : goal.hide_on_both_sides-requires-2-clause-tops
hide_on_both_sides-requires-2-clause-tops c =
    rw (c.cells-cells.ensures.value, c.deref-2.ensures.value, to_z-of_z w64 c.axes-axes.result.eye (search rules))
    c.axes-axes.ensures.row_tops

pub hide_on_both_sides-requires-clause-inside : goal.hide_on_both_sides-requires-clause-inside
hide_on_both_sides-requires-clause-inside c =
    rw (c.axes-axes.ensures.columns, c.axes-axes.ensures.rows)
    (λ x y in_x in_y. column_flags c.args.bounds x y _ c.requires.size in_x in_y)

pub hide_on_both_sides-requires-2-clause-inside : goal.hide_on_both_sides-requires-2-clause-inside
hide_on_both_sides-requires-2-clause-inside c =
    rw (c.axes-axes.ensures.columns, c.axes-axes.ensures.rows)
    (λ x y in_x in_y. row_flags c.args.bounds x y _ (omega arith) in_x in_y)

pub returns : goal.returns
returns c =
    let self = c.args.self.now in
    let t = self.grid.now.terrain in
    let o = c.args.observer.now in
    let p = place_of o in
    let b = c.args.bounds in
    let axes = c.axes-axes.ensures in
    let back = to_z-of_z w64 c.axes-axes.result.eye (search rules) in
    let e = eye_of t o in
    let in_rows : b.top + b.rows ≤ t.rows = omega arith in
    let in_cols : b.left + b.cols ≤ t.cols = omega arith in
    let mid = c.hide_on_both_sides.new.flags in
    let new = c.hide_on_both_sides-2.new.flags in
    let open_columns =
    rw (c.cells-cells.ensures.value, back, axes.columns, axes.rows, axes.eye) at
    c.in_ok-hide_on_both_sides.ensures in
    let open_rows =
    rw (c.cells-cells.ensures.value, back, axes.columns, axes.rows, axes.eye) at c.hide_on_both_sides-2.ensures in
    let columns =
    columns_left t p b e self.target_height c.args.flags.now mid c.requires.observer in_rows in_cols open_columns in
    on_ok_weaker c.hide_on_both_sides-2.result
    (λ (are : AreOpen t.cells (family_of (rows_at t b p) (columns_at b p) e)
    (extent_of (rows_at t b p) (columns_at b p)) self.target_height mid new).
    left_both b (λ (q : Place). not (column_blocks t p q e (height_of t q +ℤ pos self.target_height)))
    (λ (q : Place). not (row_blocks t p q e (height_of t q +ℤ pos self.target_height))) c.args.flags.now mid
    new columns (rows_left t p b e self.target_height mid new c.requires.observer in_rows in_cols are))
    open_rows
