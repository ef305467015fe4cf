use Rattle.std.proofs.Common.{arith, sym, ap, ◌∙◌, ◌≡◌, None, get_or, length, inl, inr}
use Rattle.std.proofs.lemmas.Bool.{cases_lt}
use Rattle.std.proofs.lemmas.List.{get_or_past}
use Rattle.sight.proofs.tops.top_of.Goals as goal

pub loop-index-preserved : goal.loop-index-preserved
loop-index-preserved c =
    let index = c.loop-index.index in
    record {
      height = λ h is. elim c.greater_height-top.ensures.one [
        | inl old ↦ c.loop-index.invariant.height h (sym old ∙ is)
        | inr new ↦ c.requires index h (sym c.height_at.ensures ∙ sym new ∙ is)
      ];
      above = λ i h below is. elim (cases_lt i index) [
        | inl before ↦ c.greater_height-top.ensures.kept h (c.loop-index.invariant.above i h before is)
        | inr last ↦
            let same : index ≡ i = omega arith in
            c.greater_height-top.ensures.raised h
            (c.height_at.ensures ∙ ap (λ n. get_or c.args.cells.now n None) same ∙ is)
      ];
    }

pub returns : goal.returns
returns c =
    let cells = c.args.cells.now in
    record {
      height = c.loop-index.invariant.height;
      top = λ i h is. elim (cases_lt i (length cells)) [
        | inl within ↦ c.loop-index.invariant.above i h (omega arith) is
        | inr past ↦
            let none = get_or_past cells i None past in
            absurd cc
      ];
    }
