use Rattle.std.proofs.lemmas.List.{append-nil}
use Rattle.ascii_grid.proofs.Writing.{then}
use Rattle.ascii_grid.proofs.page.Buffer.write_to.Goals as goal

pub returns : goal.returns
returns g c =
    rw append-nil at (then _ _ _ _ _ _ _ _ (rw c.as_bytes.ensures at c.in_ok-write_all.ensures) c.flush.ensures)
