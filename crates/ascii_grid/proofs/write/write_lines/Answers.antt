use Rattle.std.proofs.Common.{refl}
use Rattle.std.proofs.lemmas.List.{append-nil}
use Rattle.ascii_grid.proofs.Writing.{then, failed}
use Rattle.ascii_grid.proofs.Exits.{err_is}
use Rattle.ascii_grid.proofs.write.write_lines.Goals as goal

pub returns-in_err-write_all : goal.returns-in_err-write_all
returns-in_err-write_all g c =
    rw (err_is c.from_residual.ensures.1)
    (failed _ _ _ _ _ _ _ refl (rw (c.as_bytes.ensures, c.header_page.ensures) at c.in_err-write_all.ensures))

pub returns-in_err-write_texts : goal.returns-in_err-write_texts
returns-in_err-write_texts g c =
    rw (err_is c.from_residual-in_err-write_texts.ensures.1) (then _ _ _ _ _ _ _ _
    (rw (c.as_bytes.ensures, c.header_page.ensures) at c.in_ok-write_all.ensures) c.in_err-write_texts.ensures)

pub returns : goal.returns
returns g c =
    rw append-nil at (then _ _ _ _ _ _ _ _ (then _ _ _ _ _ _ _ _
    (rw (c.as_bytes.ensures, c.header_page.ensures) at c.in_ok-write_all.ensures) c.in_ok-write_texts.ensures)
    c.flush.ensures)
