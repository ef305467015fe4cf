use Rattle.std.proofs.Common.{◌≡◌, Option, Some, None, false, option_map, codes, ap, sym, ◌∙◌}
use Rattle.std.specs.Option.{option_map_or}
use Rattle.std.specs.Str.{bytes_eq}
use Rattle.clap.specs.Words.{Text, found_of, first_of, rows_of}
use Rattle.clap.proofs.WalkLemmas.{first_value-rows}
use Rattle.request.proofs.words.progress_given.Goals as goal

pub returns-in-Some : goal.returns-in-Some
returns-in-Some c =
    let found = found_of c.args.found.now in
    let is : Some c.in-Some.text.now ≡ first_of (codes "progress") (rows_of found) =
    ap (option_map (λ s. s.now)) (sym c.in-Some.is) ∙ c.get_str.ensures
    ∙ first_value-rows found (codes "progress") in
    c.eq.ensures
    ∙ ap (λ (o : Option Text). option_map_or (λ text. bytes_eq text (codes "true")) o false) is

pub returns-in-None : goal.returns-in-None
returns-in-None c =
    let found = found_of c.args.found.now in
    let is : None ≡ first_of (codes "progress") (rows_of found) =
    ap (option_map (λ s. s.now)) (sym c.in-None.is) ∙ c.get_str.ensures
    ∙ first_value-rows found (codes "progress") in
    ap (λ (o : Option Text). option_map_or (λ text. bytes_eq text (codes "true")) o false) is
