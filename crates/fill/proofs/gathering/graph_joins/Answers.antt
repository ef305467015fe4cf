use Rattle.std.proofs.Common.{inl, inr, arith}
use Rattle.std.proofs.lemmas.Bool.{cases_eq}
use Rattle.fill.proofs.Adding.{adds_none, adds_then}
use Rattle.fill.proofs.gathering.graph_joins.Goals as goal

pub loop-row-init : goal.loop-row-init
loop-row-init c = adds_none _ c.new-joins.ensures.items (λ p q j at m. omega arith)

pub loop-row-preserved : goal.loop-row-preserved
loop-row-preserved c = adds_then (λ p q. (
  λ at. elim (cases_eq _ _) [
    | inl here ↦ inr (at.0, here)
    | inr other ↦ inl (at.0, omega arith)
  ],
  λ at. elim at [
    | inl early ↦ (early.0, omega arith)
    | inr here ↦ (here.0, omega arith)
  ],
)) c.loop-row.invariant c.in_ok-push_row.ensures

pub returns : goal.returns
returns c = record {
  only = λ j there. elim (c.loop-row.invariant.only j there) [
    | inl none ↦ inl none
    | inr made ↦ inr (made.0, made.1, made.3)
  ];
  every = λ p q j within after m. c.loop-row.invariant.every p q j (within, omega arith) after m;
}
