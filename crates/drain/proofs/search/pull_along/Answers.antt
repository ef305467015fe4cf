use Rattle.std.proofs.Common.{inl, inr, arith}
use Rattle.std.proofs.lemmas.Bool.{cases_eq}
use Rattle.terrain.proofs.Places.{make_place, same_place}
use Rattle.drain.proofs.search.pull_along.Goals as goal

pub loop-col-init : goal.loop-col-init
loop-col-init c = record {
  pulled = c.requires.before;
  near = λ none. (none, λ s inner row below. absurd (omega (arith, inner.first_col, below)));
}

pub loop-col-preserved : goal.loop-col-preserved
loop-col-preserved c = record {
  pulled = c.in_ok-pull_at.ensures.pulled;
  near = λ none.
      let here = c.in_ok-pull_at.ensures.near none in
      let before = c.loop-col.invariant.near here.0 in
      let at = make_place c.args.row c.loop-col.col in (
        before.0,
        λ s inner row below. elim (cases_eq s.col c.loop-col.col) [
          | inl e ↦ rw (same_place s at row e) here.1
          | inr ne ↦ before.1 s inner row (omega arith)
        ],
      );
}
