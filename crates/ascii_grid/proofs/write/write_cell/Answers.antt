use Rattle.std.proofs.Common.{refl}
use Rattle.ascii_grid.proofs.Writing.{WritesByPage-failed}
use Rattle.ascii_grid.proofs.Exits.{err_is}
use Rattle.ascii_grid.proofs.write.write_cell.Goals as goal

pub returns-in_err-make_room : goal.returns-in_err-make_room
returns-in_err-make_room g c =
    rw (err_is c.from_residual.ensures.1) (WritesByPage-failed _ _ _ _ _ _ _ _ _ _ refl c.in_err-make_room.ensures.text)
