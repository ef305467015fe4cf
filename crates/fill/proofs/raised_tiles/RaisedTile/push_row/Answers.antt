use Rattle.std.proofs.Common.{arith, subst, sym, ◌∙◌}
use Rattle.fill.specs.RaisedRuns.{AddsRow, runs_of}
use Rattle.fill.proofs.RaisedRuns.{cell_rises, cells_stay, no_cells}
use Rattle.fill.proofs.raised_tiles.RaisedTile.push_row.Goals as goal

pub loop-index-init : goal.loop-index-init
loop-index-init c =
    let search = c.first_risen-index.ensures in
    record {
      within = search.within;
      adds = λ raised all.
          cells_stay _ (no_cells _) (λ j low below. search.passed j low below ∙ sym (all j (omega arith)));
    }

pub loop-index-preserved : goal.loop-index-preserved
loop-index-preserved c =
    let k = c.loop-index.index in
    let next = c.first_risen-index-in-loop-index in
    record {
      within = next.ensures.within;
      adds = λ raised all.
          cells_stay _ (cell_rises k _ _ _ (c.loop-index.invariant.adds raised all) c.in_ok-add.ensures
          (cc (all k c.loop-index-test.true)))
          (λ j low below. next.ensures.passed j low below ∙ sym (all j (omega arith)));
    }

pub returns : goal.returns
returns c raised all =
    subst (λ n. AddsRow raised c.args.read.now c.args.first n (runs_of c.args.runs.now) (runs_of c.loop-index.runs))
    (omega (arith, c.loop-index-test.false, c.loop-index.invariant.within)) (c.loop-index.invariant.adds raised all)
