use Rattle.std.proofs.Common.{rules, ◌≡◌, IfErr, refl, sym, subst, codes, inr}
use Rattle.std.proofs.lemmas.Result.{IfErr-weaker}
use Rattle.clap.specs.Words.{found_of, rows_of}
use Rattle.request.specs.CommandLine.{HasObservers, IsFirstBad}
use Rattle.request.specs.PlaceWords.{observer_of}
use Rattle.request.specs.WordsFaults.{IsMapFault}
use Rattle.request.proofs.Given.{fault_weaker, given_words, no_bad, only_rise, sight_without_gauges, sight_without_maps_fault}
use Rattle.request.proofs.words.rise_of.Goals as goal

pub returns-in_err-observers-clause-none : goal.returns-in_err-observers-clause-none
returns-in_err-observers-clause-none c =
    let words = given_words (found_of c.args.found.now)
    (codes "observers") _ _ _ c.unwrap_or-words.ensures refl c.get_strs.ensures in
    let same : IfErr c.from_residual.result (λ y. y ≡ c.in_err-observers.field-0.0) =
    search rules in
    IfErr-weaker c.from_residual.result _ _ (λ y e. subst (IsMapFault (codes "rise")
    (rows_of (found_of c.args.found.now))) (sym e) (fault_weaker c.in_err-observers.field-0.0
    (λ place bad. (inr refl, subst (λ ws. IsFirstBad observer_of ws place) words bad)) (λ place never.
    absurd never) (λ fault never. absurd never) (λ never. absurd never)
    c.in_err-observers.ensures.none)) same

pub returns-in_default-clause-none : goal.returns-in_default-clause-none
returns-in_default-clause-none c =
    let found = found_of c.args.found.now in
    let words =
    given_words found (codes "observers") _ _ _ c.unwrap_or-words.ensures refl c.get_strs.ensures in
    let has : HasObservers (rows_of found) _ = rw words at c.in_ok-observers.ensures.some in (
      only_rise (rows_of found) (λ r radius. c.in_default.ensures.none r radius),
      λ place. no_bad _ (rows_of found) _ place has,
      λ place. sight_without_gauges _ (rows_of found) place (inr refl),
      λ fault. sight_without_maps_fault _ (rows_of found) fault (inr refl),
    )

pub returns-clause-some : goal.returns-clause-some
returns-clause-some c =
    let words = given_words (found_of c.args.found.now)
    (codes "observers") _ _ _ c.unwrap_or-words.ensures refl c.get_strs.ensures in (
      refl,
      rw words at c.in_ok-observers.ensures.some,
      c.in-Some.ensures.some,
    )
