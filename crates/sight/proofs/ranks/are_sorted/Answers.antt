use Rattle.std.proofs.Common.{arith, inl, inr, ◌≡◌, ◌↔◌, ◌+◌, ◌-◌, Bool, true, false, IsTrue, ℤ, pos, ◌≤ℤ◌, ◌<ℤ◌, get_or}
use borrow.Author.Differences.{up, down}
use Rattle.std.proofs.lemmas.Bool.{cases_lt, false≢true}
use Rattle.std.proofs.lemmas.Int.{ints}
use Rattle.std.proofs.lemmas.Option.{slice_get-get_or, slice_get_within}
use Rattle.horizons.proofs.Sizes.{back_short}
use Rattle.sight.proofs.Ranking.{slopes_more}
use Rattle.sight.proofs.ranks.are_sorted.Goals as goal

not_below : (b : Bool) (x y : ℤ) → IsTrue b ↔ (x <ℤ y) → b ≡ false → y ≤ℤ x
not_below false x y is e = elim (cases_lt (up x + down y) (up y + down x)) [
  | inl less ↦ absurd (false≢true (is.1 (omega (arith, ints, less))))
  | inr not ↦ omega (arith, ints, not)
]
not_below true x y is e = absurd cc

pub is_before-requires-clause-target : goal.is_before-requires-clause-target
is_before-requires-clause-target c =
    c.requires c.loop-index.index _
    (slice_get-get_or c.args.targets.now c.loop-index.index (record { offset = pos 0; line = 0 }) (omega arith))

pub is_before-requires-clause-line : goal.is_before-requires-clause-line
is_before-requires-clause-line c =
    let is =
    c.requires (c.loop-index.index - 1) _ (slice_get-get_or c.args.targets.now (c.loop-index.index - 1)
    (record { offset = pos 0; line = 0 }) (omega arith)) in
    omega arith

pub is_before-requires-clause-offset : goal.is_before-requires-clause-offset
is_before-requires-clause-offset c =
    let last = get_or c.args.targets.now (c.loop-index.index - 1) (record { offset = pos 0; line = 0 }) in
    let is =
    c.requires (c.loop-index.index - 1) last (slice_get-get_or c.args.targets.now (c.loop-index.index - 1)
    (record { offset = pos 0; line = 0 }) (omega arith)) in
    rw (back_short last.offset (omega arith)) (omega arith)

pub loop-index-preserved : goal.loop-index-preserved
loop-index-preserved c =
    let targets = c.args.targets.now in
    let n = c.loop-index.index in
    let last = get_or targets (n - 1) (record { offset = pos 0; line = 0 }) in
    let at_last = slice_get-get_or targets (n - 1) (record { offset = pos 0; line = 0 }) (omega arith) in
    let is = c.requires (n - 1) last at_last in
    slopes_more targets n last (get_or targets n (record { offset = pos 0; line = 0 })) is.line.0 at_last
    (slice_get-get_or targets n (record { offset = pos 0; line = 0 }) (omega arith))
    (not_below _ _ _ (rw (back_short last.offset (omega (arith, is.offset))) at c.is_before.ensures)
    c.if-is_before.false) c.loop-index.invariant

pub returns : goal.returns
returns c = record {
  each = c.requires;
  sorted = λ i j s t less at_s at_t.
      c.loop-index.invariant i j s t less (omega (arith, slice_get_within c.args.targets.now j t at_t)) at_s at_t;
}
