use Rattle.std.proofs.Common.{◌≡◌, ◌≢◌, ◌+◌, ◌<◌, ℕ, List, Option, None, get_or, length, ap, ◌∙◌, arith}
use Rattle.std.proofs.lemmas.Bool.Decides.{nat_tests}
use Rattle.std.proofs.lemmas.List.{get_or_default}
use Rattle.terrain.specs.Neighbours.{index_of}
use Rattle.terrain.specs.declared.place.Place.{Place}
use Rattle.drain.specs.Search.{stored}
use Rattle.drain.specs.Counts.{Counted, count_of}
use Rattle.drain.proofs.Sound.{lower_change}
use Rattle.drain.proofs.input.RoundInput.lower.Goals as goal

pub returns-then-ne-clause-change : goal.returns-then-ne-clause-change
returns-then-ne-clause-change c =
    let input = c.args.self.now in
    let counted = rw c.self.view_is at c.self.invariant.1 in
    let steps = c.self.inside.steps.now in
    let same : steps ≡ input.steps = ap (λ (v : Counted). v.steps) c.self.view_is in
    let differ : c.args.to ≢ c.args.from.place = λ e.
    (let row = ap (λ (p : Place). p.row) e in let col = ap (λ (p : Place). p.col) e in
    grind (arith, nat_tests)) in
    let inside : c.index.result < length steps = omega (
      arith,
      c.index.ensures.below,
      counted.counts.size,
      ap length same,
    ) in
    let read = ap stored
    (get_or_default steps c.index.result c.index-self-index.result None inside
    ∙ ap (λ (xs : List (Option ℕ)). get_or xs c.index.result None) same) in
    let at = ap (count_of input.steps) c.index.ensures.value in
    let whole : c.number.result ≡ count_of input.steps (index_of input.terrain.cols c.args.to) =
    c.number.ensures.value ∙ read ∙ at in
    let below : c.args.from.count + 1 < count_of input.steps (index_of input.terrain.cols c.args.to) =
    omega (arith, c.if-count-number.true, whole) in
    lower_change counted.counts c.requires.from
    c.requires.to.0 c.requires.to.1 differ (c.is_level.ensures.0 c.if-is_level.true) below
