use Rattle.std.proofs.Common.{rules, ◌≡◌, []}
use Rattle.std.proofs.lemmas.Result.{err_from_is_err_and}
use Rattle.terrain.specs.Words.{ended_words}
use Rattle.ascii_grid.proofs.Ending.{ended_none, ended_one, ended_long}
use Rattle.ascii_grid.proofs.tokenizer.Tokenizer.end_word.Goals as goal

pub returns-then-is_empty-clause-words : goal.returns-then-is_empty-clause-words
returns-then-is_empty-clause-words c = λ text h.
    let none : c.args.self.now.word ≡ [] = search rules in
    (none, ended_none _ text h none)

pub returns-then-word-gt-MOST_WORD_BYTES-clause-words : goal.returns-then-word-gt-MOST_WORD_BYTES-clause-words
returns-then-word-gt-MOST_WORD_BYTES-clause-words c = λ text h. ended_long _ text h (search rules)

pub returns-in_err-add_word-clause-words : goal.returns-in_err-add_word-clause-words
returns-in_err-add_word-clause-words c = λ text h.
    let p = err_from_is_err_and c.from_residual.result c.from_residual.ensures.1 in
    rw (p.1, p.2, ended_one _ text h (search rules) (search rules), ← c.as_bytes-word.ensures)
    (c.in_err-add_word.ensures.word (ended_words text) h.judged)

pub returns-clause-words : goal.returns-clause-words
returns-clause-words c = λ text h. (
  c.clear.ensures,
  rw (ended_one _ text h (search rules) (search rules), ← c.as_bytes-word.ensures)
      (c.in_ok-add_word.ensures.word (ended_words text) h.judged),
)
