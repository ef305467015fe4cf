use Rattle.std.proofs.Common.{rules, arith, subst, ℕ, ◌+◌, ◌≤◌, get_or, pos, ◌+ℤ◌}
use Rattle.std.specs.Int.{w64}
use Rattle.std.proofs.lemmas.Int.{to_z-of_z}
use Rattle.std.proofs.lemmas.Result.{on_ok_weaker}
use Rattle.terrain.specs.Neighbours.{height_of}
use Rattle.sightlines.specs.Sight.{column_blocks, place_of}
use Rattle.sight.specs.Raising.{AreClear, IsRaised}
use Rattle.sight.specs.Sides.{columns_at, rows_at, eye_of, family_of, extent_of}
use Rattle.tiles.specs.Cutting.{index_in}
use Rattle.sight.proofs.Swept.{columns_raised, raised_open, rows_raised}
use Rattle.sightlines.proofs.Heights.{are_heights}
use Rattle.sight.proofs.PlacesLeft.{column_flags, row_flags}
use Rattle.sight.proofs.tile.ViewshedInput.raise_blocked.Goals as goal

pub raise_on_both_sides-requires-clause-heights : goal.raise_on_both_sides-requires-clause-heights
raise_on_both_sides-requires-clause-heights c =
    rw c.cells-cells.ensures.value (are_heights _ c.cells-cells.ensures.lawful.terrain)

pub raise_on_both_sides-requires-2-clause-heights : goal.raise_on_both_sides-requires-2-clause-heights
raise_on_both_sides-requires-2-clause-heights c =
    rw c.cells-cells.ensures.value (are_heights _ c.cells-cells.ensures.lawful.terrain)

pub raise_on_both_sides-requires-clause-tops : goal.raise_on_both_sides-requires-clause-tops
raise_on_both_sides-requires-clause-tops c =
    rw (c.cells-cells.ensures.value, c.deref.ensures.value, to_z-of_z w64 c.axes-axes.result.eye (search rules))
    c.axes-axes.ensures.column_tops

pub raise_on_both_sides-requires-2-clause-tops : goal.raise_on_both_sides-requires-2-clause-tops
raise_on_both_sides-requires-2-clause-tops c =
    rw (c.cells-cells.ensures.value, c.deref-2.ensures.value, to_z-of_z w64 c.axes-axes.result.eye (search rules))
    c.axes-axes.ensures.row_tops

pub raise_on_both_sides-requires-clause-inside : goal.raise_on_both_sides-requires-clause-inside
raise_on_both_sides-requires-clause-inside c =
    rw (c.axes-axes.ensures.columns, c.axes-axes.ensures.rows)
    (λ x y in_x in_y. column_flags c.args.bounds x y _ c.requires.size in_x in_y)

pub raise_on_both_sides-requires-2-clause-inside : goal.raise_on_both_sides-requires-2-clause-inside
raise_on_both_sides-requires-2-clause-inside c =
    rw (c.axes-axes.ensures.columns, c.axes-axes.ensures.rows)
    (λ x y in_x in_y. row_flags c.args.bounds x y _ (omega arith) in_x in_y)

pub returns : goal.returns
returns c =
    let self = c.args.self.now in
    let t = self.grid.now.terrain in
    let o = c.args.observer.now in
    let p = place_of o in
    let b = c.args.bounds in
    let axes = c.axes-axes.ensures in
    let back = to_z-of_z w64 c.axes-axes.result.eye (search rules) in
    let e = eye_of t o in
    let in_rows : b.top + b.rows ≤ t.rows = omega arith in
    let in_cols : b.left + b.cols ≤ t.cols = omega arith in
    let flags = c.args.flags.now in
    let old = c.args.targets.now in
    let mid = c.raise_on_both_sides.new.targets in
    let new = c.raise_on_both_sides-2.new.targets in
    let clear_columns =
    rw (c.cells-cells.ensures.value, back, axes.columns, axes.rows, axes.eye) at
    c.in_ok-raise_on_both_sides.ensures in
    let clear_rows =
    rw (c.cells-cells.ensures.value, back, axes.columns, axes.rows, axes.eye) at c.raise_on_both_sides-2.ensures in
    on_ok_weaker c.raise_on_both_sides-2.result
    (λ (are : AreClear t.cells (family_of (rows_at t b p) (columns_at b p) e)
    (extent_of (rows_at t b p) (columns_at b p)) flags mid new) q inside flagged.
    let k = index_in b q in
    raised_open t o q _ _ (
      subst
          (λ (z : ℕ). IsRaised (λ h. column_blocks t p q e (height_of t q +ℤ pos h)) z (get_or mid k 0))
          (c.requires.low k) (columns_raised t p b e flags old mid c.requires.observer in_rows in_cols
          clear_columns q inside flagged),
      rows_raised t p b e flags mid new c.requires.observer in_rows in_cols are q inside flagged,
    )) clear_rows
