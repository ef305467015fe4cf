use Rattle.std.proofs.Common.{rules, ◌∙◌, refl, subst, ◌++◌}
use Rattle.std.proofs.lemmas.List.{take_all}
use Rattle.ascii_grid.specs.Reading.{HasWords}
use Rattle.ascii_grid.proofs.Ending.{taken_words, taken_byte, fault_at}
use Rattle.ascii_grid.proofs.Exits.{err_is}
use Rattle.ascii_grid.proofs.tokenizer.Tokenizer.take_all.Goals as goal

pub returns-in_err-take-clause-words : goal.returns-in_err-take-clause-words
returns-in_err-take-clause-words c = λ text h.
    let first = c.take_heights-at.ensures in
    let before = c.loop-at.invariant in
    rw (err_is c.from_residual.ensures.1) (fault_at text c.args.bytes.now _ _ _ (before.scale ∙ first.scale)
    c.loop-at-test.true refl
    (c.in_err-take.ensures.words _ (taken_words _ _ _ text c.args.bytes.now _ _ first before h)))

pub loop-at-preserved : goal.loop-at-preserved
loop-at-preserved c =
    taken_byte _ _ _ _ _ _ _ _ _ c.loop-at.invariant c.loop-at-test.true refl c.in_ok-take.ensures.scale
    c.in_ok-take.ensures.words c.take_heights-at-in-loop-at.ensures

pub returns-clause-words : goal.returns-clause-words
returns-clause-words c = λ text h. subst (λ z. HasWords c.loop-at.self (text ++ z))
    (take_all _ c.args.bytes.now (search rules))
    (taken_words _ _ _ text _ _ _ c.take_heights-at.ensures c.loop-at.invariant h)
