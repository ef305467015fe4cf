use Rattle.std.proofs.Common.{arith, refl}
use Rattle.tiles.specs.Cutting.{IsWithin}
use Rattle.fill.proofs.Adding.{adds_as, adds_none, adds_then}
use Rattle.fill.proofs.CellLabels.{row_so_far}
use Rattle.fill.proofs.gathering.push_row.Goals as goal

pub loop-col-init : goal.loop-col-init
loop-col-init c = adds_none _ refl (λ p q j at m. omega arith)

pub loop-col-preserved : goal.loop-col-preserved
loop-col-preserved c =
    let col = c.loop-col.col in
    adds_then (λ p q. row_so_far (IsWithin c.args.tiles.now.tiling.now) c.args.row col (c.requires.row, omega arith) p)
    c.loop-col.invariant c.in_ok-push_cell.ensures

pub returns : goal.returns
returns c = adds_as (λ p q at. (at.0, at.1)) (λ p q j m after at. (at.0, at.1, omega arith)) c.loop-col.invariant
