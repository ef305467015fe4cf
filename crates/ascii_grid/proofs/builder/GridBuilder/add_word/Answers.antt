use Rattle.std.proofs.Common.{◌++◌, ◌∷◌, [], ap, sym, ◌∙◌, refl, arith, Some}
use Rattle.std.proofs.lemmas.List.{append-nil}
use Rattle.ascii_grid.specs.Reading.{flat}
use Rattle.ascii_grid.specs.declared.builder.GridBuilder.{GridBuilder}
use Rattle.ascii_grid.proofs.Judging.{HasBegun-more}
use Rattle.ascii_grid.proofs.AddedWords.{is_memory, not_memory_slot, not_memory_bad_value, word_fault, judged-key, fault-key, judged-value, fault-value, height_word, no_first_height, at_key, at_heights, same_header}
use Rattle.ascii_grid.proofs.Exits.{err_is}
use Rattle.ascii_grid.proofs.builder.GridBuilder.add_word.Goals as goal

pub returns-in_err-begin_heights-in-AtKey-clause-word : goal.returns-in_err-begin_heights-in-AtKey-clause-word
returns-in_err-begin_heights-in-AtKey-clause-word c = λ ws h.
    let letter = sym c.begins_with_letter.ensures ∙ c.if-begins_with_letter.false in
    rw (err_is c.from_residual-in_err-begin_heights-in-AtKey.ensures.1) (no_first_height _ ws _ _ h c.in-AtKey.is letter
    (omega arith) (c.in_err-begin_heights-in-AtKey.ensures.none h.pairs h.header))

pub returns-in_ok-put-in-AtValue-clause-word : goal.returns-in_ok-put-in-AtValue-clause-word
returns-in_ok-put-in-AtValue-clause-word c = λ ws h.
    let put = c.in_ok-put-in-AtValue.ensures.ok in
    judged-value _ _ ws _ _ _ h c.in-AtValue.is (omega arith) put.0 put.1 refl

pub returns-in_err-put-in-AtValue-clause-word : goal.returns-in_err-put-in-AtValue-clause-word
returns-in_err-put-in-AtValue-clause-word c = λ ws h.
    let bad = c.in_err-put-in-AtValue.ensures.err in
    rw (err_is c.from_residual.ensures.1) (word_fault c.args.self.now.scale (ws ++ c.args.word.now ∷ []) _
    (ap (λ g. is_memory (Some g)) bad.1 ∙ not_memory_bad_value c.in-AtValue.key)
    (fault-value _ ws _ _ _ h c.in-AtValue.is (omega arith) bad.0 ∙ ap Some (sym bad.1)))

pub returns-then-begins_with_letter-clause-word : goal.returns-then-begins_with_letter-clause-word
returns-then-begins_with_letter-clause-word c = λ ws h.
    let slot = c.in_ok-key-in-AtKey.ensures.ok in
    judged-key _ _ ws _ _ h c.in-AtKey.is (omega arith)
    (sym c.begins_with_letter.ensures ∙ c.if-begins_with_letter.true) slot.0 slot.1 refl
    (rw c.names_centre-centre.ensures refl)

pub returns-in_err-key-in-AtKey-clause-word : goal.returns-in_err-key-in-AtKey-clause-word
returns-in_err-key-in-AtKey-clause-word c = λ ws h.
    let letter = sym c.begins_with_letter.ensures ∙ c.if-begins_with_letter.true in
    let bad = c.in_err-key-in-AtKey.ensures.err in
    rw (err_is c.from_residual-in_err-key-in-AtKey.ensures.1) (word_fault c.args.self.now.scale
    (ws ++ c.args.word.now ∷ []) _ (not_memory_slot _ _ _ bad)
    (fault-key _ ws _ _ h c.in-AtKey.is (omega arith) letter bad))

pub returns-in-AtHeights-clause-word : goal.returns-in-AtHeights-clause-word
returns-in-AtHeights-clause-word c = λ ws h.
    let there = at_heights _ ws h c.in-AtHeights.is in
    let kept = c.add_height.ensures.kept in
    height_word _ _ ws _ _ h.header h.words (HasBegun-more h.rest _ there.0) there.1 (omega arith)
    (ap (λ (j : GridBuilder). j.header) kept) (ap (λ (j : GridBuilder). j.expected) kept ∙ c.in-AtHeights.is)
    (c.add_height.ensures.word h.pairs h.rest there.1)

pub returns-in_ok-begin_heights-in-AtKey-clause-word : goal.returns-in_ok-begin_heights-in-AtKey-clause-word
returns-in_ok-begin_heights-in-AtKey-clause-word c = λ ws h.
    let letter = sym c.begins_with_letter.ensures ∙ c.if-begins_with_letter.false in
    let begun = c.in_ok-begin_heights-in-AtKey.ensures.none h.pairs h.header in
    let began = c.in_ok-begin_heights-in-AtKey.ensures.kept in
    let kept = c.add_height-in-AtKey.ensures.kept in
    let header = same_header (ap (λ (j : GridBuilder). j.header) began) h.header in
    let words = at_key _ ws h c.in-AtKey.is ∙ sym (append-nil (flat h.pairs)) in
    let more =
    height_word _ _ ws c.args.word.now _ header words letter begun (omega arith)
    (ap (λ (j : GridBuilder). j.header) kept)
    (ap (λ (j : GridBuilder). j.expected) kept ∙ c.in_ok-begin_heights-in-AtKey.ensures.expected)
    (c.add_height-in-AtKey.ensures.word h.pairs [] begun) in
    rw (ap (λ (j : GridBuilder). j.scale) began) at more
