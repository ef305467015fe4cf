use Rattle.ascii_grid.proofs.Writing.{written_out, not_written}
use Rattle.ascii_grid.proofs.Exits.{err_is}
use Rattle.ascii_grid.proofs.write.write_page_and_rows.Goals as goal

pub returns-in_err-write_rows : goal.returns-in_err-write_rows
returns-in_err-write_rows g c =
    rw (err_is c.from_residual.ensures.1) (not_written _ _ _ _ _ _ _ c.in_err-write_rows.ensures)

pub returns : goal.returns
returns g c = written_out _ _ _ _ _ _ _ _ _ c.in_ok-write_rows.ensures c.write_to.ensures
