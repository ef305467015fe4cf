use Rattle.std.proofs.Common.{refl, codes}
use Rattle.std.proofs.lemmas.List.{map-append}
use Rattle.clap.specs.Words.{found_of}
use Rattle.request.proofs.Given.{given_words}
use Rattle.request.proofs.words.sink_words_given.Goals as goal

pub returns : goal.returns
returns c =
    let found = found_of c.args.found.now in
    let words = given_words found _ _ _ _ c.unwrap_or.ensures refl c.get_strs.ensures in
    let options = given_words found _ _ _ _ c.unwrap_or-2.ensures refl
    c.get_strs-2.ensures in
    rw (
      c.in_ok-extend_from_slice-2.ensures.items,
      c.in_ok-extend_from_slice.ensures.items,
      c.new-words.ensures.items,
      map-append,
      words,
      options,
    )
