use Rattle.std.proofs.Common.{arith, sym, ap, ◌∙◌, ◌≡◌, ◌+◌, ◌-◌, ◌*◌, None, get_or, inl, inr}
use Rattle.std.proofs.lemmas.Bool.{cases_lt}
use Rattle.terrain.proofs.Places.{inside_from_entry, entry-inside}
use Rattle.sight.specs.BlockTops.{ground_of}
use Rattle.sight.proofs.BlockLists.{top_over, run_at, in_block}
use Rattle.sight.proofs.tops.Blocks.top.Goals as goal

pub loop-row-preserved : goal.loop-row-preserved
loop-row-preserved c =
    let self = c.args.self.now in
    let t = ground_of self.cols self.rows self.cells.now in
    record {
      height = λ h is. elim c.greater_height-top.ensures.one [
        | inl old ↦ c.loop-row.invariant.height h (sym old ∙ is)
        | inr new ↦ c.top_of.ensures.height h (sym new ∙ is)
      ];
      above = λ p h row below col is. elim (cases_lt p.row c.loop-row.row) [
        | inl before ↦ c.greater_height-top.ensures.kept h (c.loop-row.invariant.above p h row before col is)
        | inr last ↦
            let here : p.row ≡ c.loop-row.row = omega arith in
            let inside = inside_from_entry t.cols t.rows t.cells p h is in
            let in_cols = in_block _ p.col _ self.sized.0 col in
            let from = c.args.block.col * self.size in
            let line = c.loop-row.row * self.cols in
            let run =
            run_at self.cells.now (line + from) (line + c.min-to.result) (p.col - from)
            (omega (arith, in_cols, inside, c.min-to.ensures)) in
            let place : line + from + (p.col - from) ≡ p.row * self.cols + p.col = omega (
              arith,
              in_cols,
              ap (λ n. n * self.cols) here,
            ) in
            let at =
            run ∙ ap (λ n. get_or self.cells.now n None) place ∙
            sym (entry-inside _ _ t.cells p inside.0 inside.1) ∙ is in
            top_over _ _ h c.greater_height-top.ensures.raised (c.top_of.ensures.top (p.col - from) h at)
      ];
    }

pub returns : goal.returns
returns c =
    let self = c.args.self.now in
    let t = ground_of self.cols self.rows self.cells.now in
    rw c.top_cell.ensures (record {
      height = c.loop-row.invariant.height;
      above = λ p h row col is.
          c.loop-row.invariant.above p h row (omega (
            arith,
            in_block _ p.row _ self.sized.0 row,
            inside_from_entry t.cols t.rows t.cells p h is,
            c.loop-row-test.false,
            c.min-row-end.ensures,
          )) col is;
    })
