use Rattle.std.proofs.Common.{arith, ◌≡◌, ◌+◌, ◌-◌, ◌*◌}
use Rattle.ascii_grid.proofs.Writing.{WritesByPage-more, WritesByPage-failed}
use Rattle.ascii_grid.proofs.RowText.{rows_more, rows_split}
use Rattle.ascii_grid.proofs.Exits.{err_is}
use Rattle.ascii_grid.proofs.write.write_rows.Goals as goal

pub returns-in_err-write_row : goal.returns-in_err-write_row
returns-in_err-write_row g c =
    let width : c.loop-row.row * c.args.cols + c.args.cols - c.loop-row.row * c.args.cols ≡ c.args.cols = omega arith in
    rw (err_is c.from_residual.ensures.1) (WritesByPage-failed _ c.args.out.now c.write_row.new.out c.args.page.now
    c.write_row.new.page c.write_row.new.page _ _ _ _
    (rows_split _ c.args.cols _ c.loop-row.row c.args.cells.now c.loop-row-test.true) (WritesByPage-more _
    c.args.out.now c.loop-row.out c.write_row.new.out c.args.page.now c.loop-row.page c.write_row.new.page _ _ _ _
    c.loop-row.invariant (rw width at c.in_err-write_row.ensures)))

pub loop-row-preserved : goal.loop-row-preserved
loop-row-preserved g c =
    let width : c.loop-row.row * c.args.cols + c.args.cols - c.loop-row.row * c.args.cols ≡ c.args.cols = omega arith in
    rw (rows_more _ c.args.cols c.loop-row.row c.args.cells.now) (WritesByPage-more _ c.args.out.now c.loop-row.out
    c.write_row.new.out c.args.page.now c.loop-row.page c.write_row.new.page _ _ _ _ c.loop-row.invariant
    (rw width at c.in_ok-write_row.ensures))
