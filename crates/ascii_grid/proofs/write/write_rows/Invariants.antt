use Rattle.std.proofs.Common.{Ok}
use Rattle.ascii_grid.specs.WritesByPage.{WritesByPage}
use Rattle.ascii_grid.specs.Text.{rows_text}
use Rattle.ascii_grid.specs.declared.counted.WriteFailed.{WriteFailed}
use Rattle.ascii_grid.proofs.write.write_rows.Given as goal

abbrev pub invariant-loop-row : goal.invariant-loop-row
invariant-loop-row g l =
    WritesByPage {T = Unit {0}} {E = WriteFailed} g.W.Write.contents l.fn.out l.fn.page l.out l.page
    (rows_text (g.E.MapCell.text l.scale l.nodata) l.cols l.row l.cells) (Ok tt)
