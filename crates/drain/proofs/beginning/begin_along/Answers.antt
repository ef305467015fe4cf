use Rattle.std.proofs.Common.{inl, inr, arith}
use Rattle.std.proofs.lemmas.Bool.{cases_eq}
use Rattle.terrain.proofs.Places.{make_place}
use Rattle.drain.proofs.Begun.{begun_next}
use Rattle.drain.proofs.beginning.begin_along.Goals as goal

pub loop-col-init : goal.loop-col-init
loop-col-init c = record {
  size = c.requires.counts.size;
  each = λ s spot before. c.requires.counts.each s spot (λ inner. elim (before inner) [
    | inl above ↦ inl above
    | inr beside ↦ absurd (omega (arith, beside.1, inner.first_col))
  ]);
}

pub loop-col-preserved : goal.loop-col-preserved
loop-col-preserved c = begun_next (make_place c.args.row c.loop-col.col) c.initial_count.result c.index.result
    c.index.ensures.value (omega (arith, c.requires.row), omega (arith, c.loop-col-test.true)) c.initial_count.ensures
    c.loop-col.invariant

pub returns : goal.returns
returns c = record {
  size = c.loop-col.invariant.size;
  each = λ s spot before. c.loop-col.invariant.each s spot (λ inner. elim (before inner) [
    | inl above ↦ elim (cases_eq s.row c.args.row) [
      | inl e ↦ inr (e, omega (arith, inner.last_col, c.loop-col-test.false))
      | inr ne ↦ inl (omega (arith, above, ne))
    ]
    | inr beside ↦ absurd (omega (arith, beside.1))
  ]);
}
