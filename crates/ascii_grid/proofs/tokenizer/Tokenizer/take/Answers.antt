use Rattle.std.proofs.Common.{rules, sym, ◌∙◌, refl}
use Rattle.std.proofs.lemmas.Result.{MatchResult-weaker}
use Rattle.ascii_grid.proofs.Ending.{words_after_byte, kept_more, kept_full, words_after_separator}
use Rattle.ascii_grid.proofs.Parting.{ended_words-separator}
use Rattle.ascii_grid.proofs.tokenizer.Tokenizer.take.Goals as goal

pub returns-then-is_separator-clause-words : goal.returns-then-is_separator-clause-words
returns-then-is_separator-clause-words c = λ text h.
    let at = sym c.is_separator.ensures ∙ c.if-is_separator.true in
    MatchResult-weaker c.end_word.result (c.end_word.ensures.words text h) (λ _ k. words_after_separator text _ at k)
    (λ f k. rw (ended_words-separator text c.args.byte at) k)

pub returns-then-has_room-clause-words : goal.returns-then-has_room-clause-words
returns-then-has_room-clause-words c = λ text h. words_after_byte text _ h
    (sym c.is_separator.ensures ∙ c.if-is_separator.false) refl
    (c.push_byte.ensures ∙ kept_more _ _ _ h.front (c.has_room.ensures.0 c.if-has_room.true))

pub returns-else-has_room-clause-words : goal.returns-else-has_room-clause-words
returns-else-has_room-clause-words c = λ text h. words_after_byte text _ h
    (sym c.is_separator.ensures ∙ c.if-is_separator.false) refl (kept_full _ _ _ h.front (search rules))
