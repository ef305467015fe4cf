use Rattle.std.proofs.Common.{arith, ap, ◌≡◌, ◌∙◌, ◌++◌, ◌+◌, ◌-◌, length, drop}
use Rattle.ascii_grid.specs.Text.{row_text}
use Rattle.ascii_grid.proofs.Writing.{WritesByPage-more, WritesByPage-failed}
use Rattle.ascii_grid.proofs.RowText.{spaced_more, row_split, row_last}
use Rattle.ascii_grid.proofs.Exits.{err_is}
use Rattle.ascii_grid.proofs.write.write_row.Goals as goal

pub returns-in_err-write_cell : goal.returns-in_err-write_cell
returns-in_err-write_cell g c =
    let more =
    spaced_more (g.E.MapCell.text c.args.scale c.args.nodata.now) c.args.cells.now c.index-cells-index.result
    c.loop-index.index (omega arith) c.index-cells-index.is in
    let whole =
    row_split (g.E.MapCell.text c.args.scale c.args.nodata.now) c.args.cells.now (c.loop-index.index + 1)
    (omega arith) ∙ ap (λ z. z ++
    row_text (g.E.MapCell.text c.args.scale c.args.nodata.now) (drop (c.loop-index.index + 1) c.args.cells.now))
    more in
    rw (err_is c.from_residual.ensures.1) (WritesByPage-failed _ c.args.out.now c.write_cell.new.out c.args.page.now
    c.write_cell.new.page c.write_cell.new.page _ _ _ _ whole (WritesByPage-more _ c.args.out.now c.loop-index.out
    c.write_cell.new.out c.args.page.now c.loop-index.page c.write_cell.new.page _ _ _ _ c.loop-index.invariant
    c.in_err-write_cell.ensures))

pub loop-index-preserved : goal.loop-index-preserved
loop-index-preserved g c =
    rw (spaced_more _ _ _ c.loop-index.index (omega arith) c.index-cells-index.is) (WritesByPage-more _ _ _
    c.write_cell.new.out c.args.page.now c.loop-index.page c.write_cell.new.page _ _ _ _ c.loop-index.invariant
    c.in_ok-write_cell.ensures)

pub returns : goal.returns
returns g c =
    let end : c.loop-index.index ≡ length c.args.cells.now - 1 = omega arith in
    rw (row_last (g.E.MapCell.text c.args.scale c.args.nodata.now) c.args.cells.now c.index-cells-last.result
    (length c.args.cells.now - 1) (omega arith) c.index-cells-last.is) (WritesByPage-more _ c.args.out.now
    c.loop-index.out c.write_cell-2.new.out c.args.page.now c.loop-index.page c.write_cell-2.new.page _ _ _ _
    (rw end at c.loop-index.invariant) c.write_cell-2.ensures)
