use Rattle.std.proofs.Common.{arith, ◌≡◌, ◌+◌, ◌-◌, ◌/◌, ◌<◌, ◌∙◌, sym, ap, inl, inr, Bool, true, false, not, refl}
use Rattle.std.proofs.Math.Bool.{beq}
use Rattle.std.specs.Prelude.{slice_get, pos}
use Rattle.std.proofs.lemmas.Bool.{cases_lt}
use Rattle.std.proofs.lemmas.Option.{slice_get-get_or}
use Rattle.horizons.proofs.Merged.{even_between, only}
use Rattle.horizons.proofs.merging.first_change.Goals as goal

same : (a b : Bool) → beq a b ≡ true → a ≡ b
same true true e = refl
same false false e = refl
same true false e = cc
same false true e = cc

other : (a b : Bool) → beq a b ≡ false → a ≡ not b
other true false e = refl
other false true e = refl
other true true e = cc
other false false e = cc

pub returns-then-is_above_at-first-clause-before : goal.returns-then-is_above_at-first-clause-before
returns-then-is_above_at-first-clause-before c i t low high at =
    even_between _ c.args.one c.args.other _ _ _ c.requires.targets (omega arith) (omega arith)
    (λ u at_u. c.requires.first _ u (omega arith) (omega arith) at_u)
    (λ u at_u. c.is_above_at.ensures u at_u ∙ same _ _ c.if-is_above_at-first.true) i t low (omega arith) at

apart : (b : Bool) → b ≡ not b → ⊥
apart true e = cc
apart false e = cc

-- More than one target is searched, since the comparison differs at the first and the last.
some : (c : goal.Else-is_above_at-first) → c.args.from < c.args.end - 1
some c = elim (cases_lt c.args.from (c.args.end - 1)) [
  | inl less ↦ less
  | inr not_less ↦
      let from_is : c.args.from ≡ c.args.end - 1 = omega arith in
      let at = slice_get-get_or c.args.targets.now c.args.from (record { offset = pos 0; line = 0 }) (omega arith) in
      let first = c.requires.first c.args.from _ (omega arith) (omega arith) at in
      let last = c.is_above_at.ensures _ (ap (slice_get c.args.targets.now) (sym from_is) ∙ at) in
      absurd (apart _ (sym first ∙ last ∙ other _ _ c.if-is_above_at-first.false))
]

pub loop-turned-init : goal.loop-turned-init
loop-turned-init c = record {
  range = (omega arith, some c, omega arith);
  before = c.requires.first;
  after = λ i t low high at.
      only c.args.targets.now c.args.one c.args.other (not c.args.first) (c.args.end - 1)
      (λ u at_u.
      c.is_above_at.ensures u at_u ∙ other c.is_above_at.result c.args.first c.if-is_above_at-first.false) i t
      low (omega arith) at;
}

pub is_above_at-requires-in-loop-turned-clause-one : goal.is_above_at-requires-in-loop-turned-clause-one
is_above_at-requires-in-loop-turned-clause-one c i t low high at = c.requires.one i t (omega arith) (omega arith) at

pub is_above_at-requires-in-loop-turned-clause-other : goal.is_above_at-requires-in-loop-turned-clause-other
is_above_at-requires-in-loop-turned-clause-other c i t low high at = c.requires.other i t (omega arith) (omega arith) at

pub loop-turned-preserved-then-is_above_at-first-2 : goal.loop-turned-preserved-then-is_above_at-first-2
loop-turned-preserved-then-is_above_at-first-2 c =
    let l = c.loop-turned in
    record {
      range = (omega arith, omega arith, omega arith);
      before = even_between c.args.targets.now c.args.one c.args.other c.args.first c.args.from
          (l.same + (l.turned - l.same) / 2) c.requires.targets (omega arith) (omega arith)
          (λ u at_u. l.invariant.before c.args.from u (omega arith) (omega arith) at_u)
          (λ u at_u.
          c.is_above_at-in-loop-turned.ensures u at_u ∙
          same c.is_above_at-in-loop-turned.result c.args.first c.if-is_above_at-first-2.true);
      after = l.invariant.after;
    }

pub loop-turned-preserved : goal.loop-turned-preserved
loop-turned-preserved c =
    let l = c.loop-turned in
    record {
      range = (omega arith, omega arith, omega arith);
      before = l.invariant.before;
      after = λ i t low high at.
          even_between c.args.targets.now c.args.one c.args.other (not c.args.first) (l.same + (l.turned - l.same) / 2)
          (c.args.end - 1) c.requires.targets (omega arith) (omega arith) (λ u at_u.
          c.is_above_at-in-loop-turned.ensures u at_u ∙
          other c.is_above_at-in-loop-turned.result c.args.first c.if-is_above_at-first-2.false)
          (λ u at_u. l.invariant.after (c.args.end - 1) u (omega arith) (omega arith) at_u) i t low (omega arith)
          at;
    }
