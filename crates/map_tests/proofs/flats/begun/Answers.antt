use Rattle.std.proofs.Common.{◌≡◌, ◌+◌, ◌*◌, ◌∷◌, ◌++◌, [], ℕ, List, Option, sym, ap, ◌∙◌, subst, arith, rules}
use Rattle.std.specs.Bool.{then_some}
use Rattle.map_tests.proofs.BegunCounts.{AreBegunBelow, begun_next, all_begun}
use Rattle.map_tests.proofs.flats.begun.Goals as goal

pub loop-index-preserved : goal.loop-index-preserved
loop-index-preserved c =
    let t = c.args.grid.now.terrain in
    let pushed : c.push.new.self.items ≡ c.loop-index.counts.items
    ++ then_some c.drains_at_once.result 0 ∷ [] = search rules in
    subst (λ (xs : List (Option ℕ)). AreBegunBelow t (c.loop-index.index + 1) xs) (sym pushed)
    (begun_next t c.place_at-place.result c.loop-index.index c.loop-index.counts.items
    c.drains_at_once.result c.place_at-place.ensures.inside c.place_at-place.ensures.index
    c.loop-index.invariant c.drains_at_once.ensures)

pub returns : goal.returns
returns c =
    let t = c.args.grid.now.terrain in
    let all : c.cols.result * c.rows.result ≡ t.cols * t.rows = ap (λ (n : ℕ).
    n * c.rows.result) c.cols.ensures.value ∙ ap (λ (n : ℕ). t.cols * n) c.rows.ensures.value in
    let whole : c.loop-index.index ≡ t.cols * t.rows = omega (arith, all) in
    all_begun t c.loop-index.counts.items
    (subst (λ (n : ℕ). AreBegunBelow t n c.loop-index.counts.items) whole c.loop-index.invariant)
