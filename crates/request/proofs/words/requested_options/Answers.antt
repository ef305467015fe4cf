use Rattle.std.proofs.Common.{List, map, ap, sym, subst, ◌∙◌}
use Rattle.std.proofs.lemmas.Result.{err_from_is_err_and}
use Rattle.clap.specs.Words.{Text, found_of, rows_of}
use Rattle.clap.specs.Faults.{fault_of, is_simple_and_free}
use Rattle.clap.specs.Kinds.{HasKind}
use Rattle.request.specs.CommandLine.{Spell, RequestFor, program_app}
use Rattle.request.specs.PlaceWords.{place_of_word}
use Rattle.request.specs.Request.{IsSightMap}
use Rattle.request.proofs.Requested.{accepted, found_in, map_refused, named_by, none_by, none_named, options_refused, program_free, sinks_refused, requested}
use Rattle.request.proofs.Given.{sight_without_sinks}
use Rattle.request.proofs.words.requested_options.Goals as goal

pub returns-in_err-matches-clause-fault : goal.returns-in_err-matches-clause-fault
returns-in_err-matches-clause-fault c =
    let words : List Text = map (λ w. w.now) c.args.words.now in
    let p = err_from_is_err_and c.from_residual-in_err-matches.result
    c.from_residual-in_err-matches.ensures.1 in
    let kind : HasKind (fault_of program_app words) c.in_err-matches.field-0.0 =
    subst (λ a. HasKind (fault_of a words) c.in_err-matches.field-0.0) c.in_ok-command.ensures
    (c.in_err-matches.ensures.kinds (ap is_simple_and_free c.in_ok-command.ensures
    ∙ program_free)) in
    rw (p.1, p.2) kind

pub returns-in_default-clause-fault : goal.returns-in_default-clause-fault
returns-in_default-clause-fault c =
    let words : List Text = map (λ w. w.now) c.args.words.now in
    let found = found_in _ words c.in_ok-matches.matches c.in_ok-command.ensures
    c.in_ok-matches.ensures.matches in
    none_named words (accepted _ words c.in_ok-command.ensures c.in_ok-matches.ensures.kinds) (found
    ∙ none_by _ c.in_default.ensures.rows)

pub returns-in_err-map-clause-fault : goal.returns-in_err-map-clause-fault
returns-in_err-map-clause-fault c =
    let words : List Text = map (λ w. w.now) c.args.words.now in
    let found =
    found_in _ words c.in_ok-matches.matches c.in_ok-command.ensures c.in_ok-matches.ensures.matches
    ∙ named_by _ _ _ c.in-Some.ensures.name c.in-Some.ensures.rows in
    let p =
    err_from_is_err_and c.from_residual-in_err-map.result c.from_residual-in_err-map.ensures.1 in
    rw (p.1, p.2) (map_refused words (accepted _ words c.in_ok-command.ensures
    c.in_ok-matches.ensures.kinds) _ _ found _ c.in_err-map.ensures.none)

pub returns-in_err-sinks-clause-fault : goal.returns-in_err-sinks-clause-fault
returns-in_err-sinks-clause-fault c =
    let words : List Text = map (λ w. w.now) c.args.words.now in
    let found =
    found_in _ words c.in_ok-matches.matches c.in_ok-command.ensures c.in_ok-matches.ensures.matches
    ∙ named_by _ _ _ c.in-Some.ensures.name c.in-Some.ensures.rows in
    let p = err_from_is_err_and c.from_residual-in_err-sinks.result
    c.from_residual-in_err-sinks.ensures.1 in
    rw (p.1, p.2)
    (sinks_refused words (accepted _ words c.in_ok-command.ensures c.in_ok-matches.ensures.kinds)
    _ _ found _ c.in_ok-map.ensures.some _ c.in_err-sinks.ensures.none)

pub returns-in_default-with_options-clause-fault : goal.returns-in_default-with_options-clause-fault
returns-in_default-with_options-clause-fault c =
    let words : List Text = map (λ w. w.now) c.args.words.now in
    let found =
    found_in _ words c.in_ok-matches.matches c.in_ok-command.ensures c.in_ok-matches.ensures.matches
    ∙ named_by _ _ _ c.in-Some.ensures.name c.in-Some.ensures.rows in
    options_refused words
    (accepted _ words c.in_ok-command.ensures c.in_ok-matches.ensures.kinds) _ _ found _ _
    c.in_ok-map.ensures.some c.in_ok-sinks.ensures.some c.in_default-with_options.ensures.none

pub returns-in-Ok-clause-request : goal.returns-in-Ok-clause-request
returns-in-Ok-clause-request c =
    let words : List Text = map (λ w. w.now) c.args.words.now in
    let found =
    found_in _ words c.in_ok-matches.matches c.in_ok-command.ensures c.in_ok-matches.ensures.matches
    ∙ named_by _ _ _ c.in-Some.ensures.name c.in-Some.ensures.rows in
    let given = c.in-Some-with_options.ensures in
    subst (RequestFor words) (sym c.in-Ok.ensures.some.0)
    (requested words (accepted _ words c.in_ok-command.ensures c.in_ok-matches.ensures.kinds)
    _ _ found c.in_ok-map.map
    (record c.in-Some-with_options.options { sinks = c.in_ok-sinks.sinks.items })
    c.in_ok-map.ensures.some given.some.0 c.in_ok-sinks.ensures.some given.some.2 given.limits
    given.progress (λ view. absurd (c.in-Ok.ensures.some.1 view)))

pub returns-clause-request : goal.returns-clause-request
returns-clause-request c =
    let words : List Text = map (λ w. w.now) c.args.words.now in
    let found =
    found_in _ words c.in_ok-matches.matches c.in_ok-command.ensures c.in_ok-matches.ensures.matches
    ∙ named_by _ _ _ c.in-Some.ensures.name c.in-Some.ensures.rows in
    let given = c.in-Some-with_options.ensures in
    let none = sight_without_sinks _ (rows_of (found_of c.in-Some.found.now))
    c.in_ok-map.map c.in_ok-map.ensures.some
    (subst IsSightMap given.some.0 c.in-Err.ensures.view.1) in
    subst (RequestFor words) (sym c.in-Err.ensures.view.0)
    (requested words (accepted _ words c.in_ok-command.ensures c.in_ok-matches.ensures.kinds)
    _ _ found c.in_ok-map.map c.in-Some-with_options.options
    c.in_ok-map.ensures.some given.some.0 (subst (Spell place_of_word _)
    (sym given.some.1) none) given.some.2 given.limits given.progress (λ view. given.some.1))
