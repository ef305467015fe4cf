use Rattle.std.proofs.Common.{arith, sym, ap, ◌∙◌, ◌≡◌, ◌+◌, ◌*◌, None, get_or, inl, inr}
use Rattle.std.proofs.lemmas.Bool.{cases_lt}
use Rattle.sight.proofs.heights.top_along.Goals as goal

pub loop-cell-preserved : goal.loop-cell-preserved
loop-cell-preserved c =
    let cell = c.loop-cell.cell in
    record {
      tops = λ b h from below is. elim (cases_lt b cell) [
        | inl before ↦ c.greater_height-top.ensures.kept h (c.loop-cell.invariant.tops b h from before is)
        | inr last ↦
            let same : cell ≡ b = omega arith in
            c.greater_height-top.ensures.raised h (c.height_at.ensures ∙
            ap (λ n. get_or c.args.cells.now (c.args.start + n * c.args.stride) None) same ∙ is)
      ];
      height = λ h is. elim c.greater_height-top.ensures.one [
        | inl old ↦ c.loop-cell.invariant.height h (sym old ∙ is)
        | inr new ↦ c.requires.heights _ h (sym c.height_at.ensures ∙ sym new ∙ is)
      ];
    }
