use Rattle.std.proofs.Common.{take, Ok}
use Rattle.ascii_grid.specs.WritesByPage.{WritesByPage}
use Rattle.ascii_grid.specs.declared.counted.WriteFailed.{WriteFailed}
use Rattle.ascii_grid.proofs.RowText.{spaced}
use Rattle.ascii_grid.proofs.write.write_row.Given as goal

abbrev pub invariant-loop-index : goal.invariant-loop-index
invariant-loop-index g l =
    WritesByPage {T = Unit {0}} {E = WriteFailed} g.W.Write.contents l.fn.out l.fn.page l.out l.page
    (spaced (g.E.MapCell.text l.scale l.nodata) (take l.index l.cells)) (Ok tt)
