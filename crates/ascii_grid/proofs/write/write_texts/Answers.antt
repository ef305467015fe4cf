use Rattle.std.proofs.Common.{arith}
use Rattle.ascii_grid.proofs.RowText.{pieces_more, pieces_split}
use Rattle.ascii_grid.proofs.Writing.{then, failed}
use Rattle.ascii_grid.proofs.Exits.{err_is}
use Rattle.ascii_grid.proofs.write.write_texts.Goals as goal

pub returns-in_err-write_all : goal.returns-in_err-write_all
returns-in_err-write_all g c =
    rw (err_is c.from_residual.ensures.1) (failed _ _ _ _ _ _ _
    (pieces_split (λ text. text.items) _ _ c.loop-text.text-index (omega arith) c.text-item.is) (then _ c.args.out.now
    c.loop-text.out c.write_all.new.self _ _ _ _ c.loop-text.invariant
    (rw c.deref.ensures.value at c.in_err-write_all.ensures)))

pub loop-text-preserved : goal.loop-text-preserved
loop-text-preserved g c =
    rw (pieces_more (λ text. text.items) _ _ c.loop-text.text-index (omega arith) c.text-item.is)
    (then _ _ _ _ _ _ _ _ c.loop-text.invariant (rw c.deref.ensures.value at c.in_ok-write_all.ensures))
