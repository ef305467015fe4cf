use Rattle.std.proofs.Common.{◌≡◌, ◌*◌, ℕ, sym, ap, ◌∙◌, subst, refl, arith}
use Rattle.std.proofs.lemmas.Bool.{false≢true}
use Rattle.map_tests.proofs.BegunCounts.{HasNoLowerBelow, none_lower_next, none_lower}
use Rattle.map_tests.proofs.flats.has_lower.Goals as goal

pub loop-index-preserved : goal.loop-index-preserved
loop-index-preserved c =
    none_lower_next c.args.grid.now.terrain c.args.place c.place_at.result c.loop-index.index
    c.place_at.ensures.inside c.place_at.ensures.index c.loop-index.invariant
    (λ lower. false≢true (sym c.if-is_lower.false ∙ c.is_lower.ensures.1 lower))

pub returns-then-is_lower : goal.returns-then-is_lower
returns-then-is_lower c =
    (λ _. (c.place_at.result, c.is_lower.ensures.0 c.if-is_lower.true), λ _. refl)

pub returns : goal.returns
returns c =
    let t = c.args.grid.now.terrain in
    let all : c.cols.result * c.rows.result ≡ t.cols * t.rows = ap (λ (n : ℕ).
    n * c.rows.result) c.cols.ensures.value ∙ ap (λ (n : ℕ). t.cols * n) c.rows.ensures.value in
    let whole : c.loop-index.index ≡ t.cols * t.rows = omega (arith, all) in (
      λ e. absurd (false≢true e),
      λ lower. absurd (none_lower t c.args.place
          (subst (λ (n : ℕ). HasNoLowerBelow t c.args.place n) whole c.loop-index.invariant) lower),
    )
