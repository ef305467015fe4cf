use Rattle.std.proofs.Common.{◌≡◌, List, IfErr, IfOk, false, map, subst, sym, ◌∙◌}
use Rattle.std.proofs.lemmas.Bool.{cond-false}
use Rattle.clap.specs.Words.{Text, found_of, rows_of}
use Rattle.request.specs.CommandLine.{IsFirstBad, Spell, is_of_sight, sink_words}
use Rattle.request.specs.PlaceWords.{place_of_word}
use Rattle.request.specs.WordsFaults.{IsFaultWith}
use Rattle.request.proofs.words.sinks_given.Goals as goal

same : (c : goal.After-drop-words) → map (λ w. w.now) c.deref.result.now
    ≡ sink_words c.args.name.now (rows_of (found_of c.args.found.now))
same c =
    let other = sym c.is_of_sight.ensures
    ∙ c.if-is_of_sight.false in
    rw c.deref.ensures.value c.in_ok-words.ensures ∙ sym (cond-false _ _ _ other)

pub returns-clause-some : goal.returns-clause-some
returns-clause-some c = rw (same c) at c.sinks_of.ensures.some

pub returns-clause-none : goal.returns-clause-none
returns-clause-none c = rw (same c) at c.sinks_of.ensures.none
