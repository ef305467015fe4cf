use Rattle.std.proofs.Common.{refl, ◌∙◌}
use Rattle.clap.specs.Words.{found_of, one_of, rows_of}
use Rattle.clap.proofs.WalkLemmas.{one_text-rows}
use Rattle.request.proofs.Given.{number_some, number_none}
use Rattle.request.proofs.words.number_given.Goals as goal

pub returns-clause-some : goal.returns-clause-some
returns-clause-some c =
    let found = found_of c.args.found.now in
    let id = c.args.id.now in
    number_some (rows_of found) id (one_of id (rows_of found)) refl c.get_one.result
    (λ e. c.get_one.ensures.none (one_text-rows found id ∙ e)) (λ t e.
    c.get_one.ensures.value t (one_text-rows found id ∙ e))

pub returns-clause-none : goal.returns-clause-none
returns-clause-none c =
    let found = found_of c.args.found.now in
    let id = c.args.id.now in
    number_none (rows_of found) id (one_of id (rows_of found)) refl c.get_one.result
    (λ e. c.get_one.ensures.none (one_text-rows found id ∙ e)) (λ t e.
    c.get_one.ensures.value t (one_text-rows found id ∙ e))
