use Rattle.std.proofs.Common.{rules, ◌≡◌, IfErr, refl, sym, subst, codes, inl}
use Rattle.std.proofs.lemmas.Result.{IfErr-weaker}
use Rattle.clap.specs.Words.{found_of, rows_of}
use Rattle.request.specs.CommandLine.{IsFirstBad}
use Rattle.request.specs.PlaceWords.{place_of_word}
use Rattle.request.specs.WordsFaults.{IsMapFault}
use Rattle.request.proofs.Given.{fault_weaker, given_words}
use Rattle.request.proofs.words.catchments_of.Goals as goal

pub returns-in_err-gauges-clause-none : goal.returns-in_err-gauges-clause-none
returns-in_err-gauges-clause-none c =
    let words = given_words (found_of c.args.found.now)
    (codes "gauges") _ _ _ c.unwrap_or-words.ensures refl c.get_strs.ensures in
    let same : IfErr c.from_residual.result (λ y. y ≡ c.in_err-gauges.field-0.0) = search rules in
    IfErr-weaker c.from_residual.result _ _ (λ y e. subst (IsMapFault (codes "catchments")
    (rows_of (found_of c.args.found.now))) (sym e) (fault_weaker c.in_err-gauges.field-0.0
    (λ place never. absurd never) (λ place bad.
    (inl refl, subst (λ ws. IsFirstBad place_of_word ws place) words bad)) (λ fault never.
    absurd never) (λ never. absurd never)
    c.in_err-gauges.ensures.none)) same

pub returns-clause-some : goal.returns-clause-some
returns-clause-some c =
    let words = given_words (found_of c.args.found.now)
    (codes "gauges") _ _ _ c.unwrap_or-words.ensures refl c.get_strs.ensures in
    (refl, rw words at c.in_ok-gauges.ensures.some)
