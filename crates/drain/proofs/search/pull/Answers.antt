use Rattle.std.proofs.Common.{inl, inr, arith}
use Rattle.std.proofs.lemmas.Bool.{cases_eq}
use Rattle.drain.proofs.Spreading.{pulled_none}
use Rattle.drain.proofs.search.pull.Goals as goal

pub loop-row-init : goal.loop-row-init
loop-row-init c = record {
  pulled = pulled_none c.requires.same c.new-reached.ensures.items;
  near = λ none s inner below. absurd (omega (arith, inner.first_row, below));
}

pub loop-row-preserved : goal.loop-row-preserved
loop-row-preserved c = record {
  pulled = c.in_ok-pull_along.ensures.pulled;
  near = λ none s inner below.
      let here = c.in_ok-pull_along.ensures.near none in
      elim (cases_eq s.row c.loop-row.row) [
        | inl e ↦ here.1 s inner e
        | inr ne ↦ c.loop-row.invariant.near here.0 s inner (omega arith)
      ];
}
