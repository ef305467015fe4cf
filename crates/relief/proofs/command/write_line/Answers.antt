use Rattle.std.proofs.Common.{◌++◌, codes, refl}
use Rattle.std.proofs.lemmas.List.{append-nil}
use Rattle.std.proofs.lemmas.Result.{err_from_is_err_and}
use Rattle.ascii_grid.proofs.Writing.{failed, then}
use Rattle.relief.proofs.command.write_line.Goals as goal

pub returns-in_err-write_all : goal.returns-in_err-write_all
returns-in_err-write_all g c =
    let p = err_from_is_err_and c.from_residual.result c.from_residual.ensures.1 in
    let text = c.as_bytes.result.now in
    rw (p.1, p.2) (text ++ codes "\n", (text, refl), failed _ c.args.out.now _ _ text (codes "\n") _ refl c.in_err-write_all.ensures)

pub returns-in_err-write_all-2 : goal.returns-in_err-write_all-2
returns-in_err-write_all-2 g c =
    let p = err_from_is_err_and c.from_residual-in_err-write_all-2.result
    c.from_residual-in_err-write_all-2.ensures.1 in
    let text = c.as_bytes.result.now in
    rw (p.1, p.2) (text ++ codes "\n", (text, refl), then _ _ _ _ text (codes "\n") _ _ c.in_ok-write_all.ensures c.in_err-write_all-2.ensures)

pub returns : goal.returns
returns g c =
    let text = c.as_bytes.result.now in
    let line = then _ _ _ _ text (codes "\n") _ _ c.in_ok-write_all.ensures c.in_ok-write_all-2.ensures in
    (text ++ codes "\n", (text, refl), rw append-nil at (then _ _ _ _ _ _ _ _ line c.flush.ensures))
