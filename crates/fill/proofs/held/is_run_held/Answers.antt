use Rattle.std.proofs.Common.{sym, subst, inl, inr, arith}
use Rattle.std.proofs.lemmas.Bool.{cases_eq}
use Rattle.fill.specs.Held.{IsHeld}
use Rattle.fill.proofs.Settled.{run_col}
use Rattle.fill.proofs.held.is_run_held.Goals as goal

pub loop-index-preserved : goal.loop-index-preserved
loop-index-preserved c i from low = elim (cases_eq i _) [
  | inr other ↦ c.loop-index.invariant i from (omega (arith, low, other))
  | inl same ↦
      let cols = c.args.cols in
      let first = c.args.run.first in
      let col =
      run_col cols first c.loop-index.index c.loop-index.auto.index
      (omega (arith, c.if-cols-col.false, c.loop-index-test.true, c.loop-index.auto.index)) in
      subst (IsHeld cols c.args.cells.now) (sym same) (record {
        after = omega (arith, c.loop-index.auto.index, c.if-first-cols.false);
        before = omega (arith, c.loop-index-test.true, c.if-cells-end.false);
        left = omega (arith, col, c.if-col-eq0.false);
        right = omega (arith, col, c.if-cols-col.false, c.loop-index-test.true, c.loop-index.auto.index);
        around = c.if-not-is_held.ensures;
      })
]
