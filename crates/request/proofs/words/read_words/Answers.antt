use Rattle.std.proofs.Common.{sym, ◌∙◌}
use Rattle.request.proofs.Given.{bad_at}
use Rattle.request.proofs.words.read_words.Goals as goal

pub returns-in_default-clause-bad : goal.returns-in_default-clause-bad
returns-in_default-clause-bad g c =
    bad_at g.T.FromWord.spelled c.args.words.now c.loop-place.items.items c.loop-place.place _
    c.loop-place-test.true c.loop-place.invariant (sym c.from_word.ensures ∙ c.in_default.is)
