use Rattle.std.proofs.Common.{rules, ◌≡◌, ◌∙◌, IfErr, ap₂, refl, sym, subst, codes, inr}
use Rattle.std.proofs.lemmas.Result.{IfErr-weaker}
use Rattle.clap.specs.Words.{found_of, rows_of}
use Rattle.request.specs.CommandLine.{HasGauges, IsFirstBad}
use Rattle.request.specs.MapWords.{maps_fault}
use Rattle.request.specs.PlaceWords.{place_of_word}
use Rattle.request.specs.WordsFaults.{IsMapFault}
use Rattle.request.proofs.Given.{fault_weaker, given_words}
use Rattle.request.proofs.words.several_of.Goals as goal

pub returns-in_err-gauges-clause-none : goal.returns-in_err-gauges-clause-none
returns-in_err-gauges-clause-none c =
    let words = given_words (found_of c.args.found.now)
    (codes "gauges") _ _ _ c.unwrap_or-gauge_words.ensures refl c.get_strs.ensures in
    let same : IfErr c.from_residual.result (λ y. y ≡ c.in_err-gauges.field-0.0) = search rules in
    IfErr-weaker c.from_residual.result _ _ (λ y e. subst (IsMapFault (codes "maps")
    (rows_of (found_of c.args.found.now))) (sym e) (fault_weaker c.in_err-gauges.field-0.0
    (λ place never. absurd never) (λ place bad.
    (inr refl, subst (λ ws. IsFirstBad place_of_word ws place) words bad)) (λ fault never.
    absurd never) (λ never. absurd never)
    c.in_err-gauges.ensures.none)) same

pub returns-in_err-maps-clause-none : goal.returns-in_err-maps-clause-none
returns-in_err-maps-clause-none c =
    let found = found_of c.args.found.now in
    let gauge_words = given_words found (codes "gauges") _ _ _ c.unwrap_or-gauge_words.ensures refl
    c.get_strs.ensures in
    let map_words = given_words found (codes "maps") _ _ _ c.unwrap_or-map_words.ensures refl
    c.get_strs-2.ensures in
    let has : HasGauges (rows_of found) _ = rw gauge_words at c.in_ok-gauges.ensures.some in
    let same : IfErr c.from_residual-in_err-maps.result (λ y. y ≡ c.in_err-maps.field-0.0) =
    search rules in
    IfErr-weaker c.from_residual-in_err-maps.result _ _ (λ y e. subst (IsMapFault (codes "maps")
    (rows_of found)) (sym e) (fault_weaker c.in_err-maps.field-0.0
    (λ place never. absurd never) (λ place never. absurd never)
    (λ fault bad. (refl, (_, has), sym (ap₂ maps_fault map_words gauge_words) ∙ bad))
    (λ never. absurd never) c.in_err-maps.ensures.none)) same

pub returns-clause-some : goal.returns-clause-some
returns-clause-some c =
    let found = found_of c.args.found.now in
    let gauge_words = given_words found _ _ _ _ c.unwrap_or-gauge_words.ensures refl
    c.get_strs.ensures in
    let map_words = given_words found _ _ _ _ c.unwrap_or-map_words.ensures refl
    c.get_strs-2.ensures in (
      refl,
      rw gauge_words at c.in_ok-gauges.ensures.some,
      rw map_words at c.in_ok-maps.ensures.some,
      sym (ap₂ maps_fault map_words gauge_words) ∙ c.in_ok-maps.ensures.sound,
    )
