use Rattle.std.proofs.Common.{ℕ, List, MatchResult, rules, sym, ap, subst, ◌∙◌}
use Rattle.std.proofs.lemmas.Result.{MatchResult-weaker, err_from_is_err_and}
use Rattle.terrain.specs.Words.{words}
use Rattle.ascii_grid.specs.GridText.{IsGridText, IsRefusal}
use Rattle.ascii_grid.specs.Reader.{WasFed}
use Rattle.ascii_grid.proofs.Feeding.{answered, whole_refusal, is_reading, end_refused, finished}
use Rattle.ascii_grid.proofs.AddedWords.{judged_none}
use Rattle.ascii_grid.proofs.reader.GridReader.finish.Goals as goal

pub finish-requires-clause-judged : goal.finish-requires-clause-judged
finish-requires-clause-judged c =
    let fed = c.self.invariant.1 in
    (words fed.0, (c.in_ok-end_word.ensures.words fed.0 (is_reading _ _ c.in_default.is fed.1).words_of).1)

pub returns-in-Some-clause-fault : goal.returns-in-Some-clause-fault
returns-in-Some-clause-fault c = λ text h. subst (λ r. IsRefusal r.scale text c.in-Some.fault) c.self.view_is
    (whole_refusal _ text c.in-Some.fault
    (answered _ text c.in-Some.fault c.in-Some.is (subst (λ r. WasFed r text) (sym c.self.view_is) h)))

pub returns-in_err-end_word-clause-fault : goal.returns-in_err-end_word-clause-fault
returns-in_err-end_word-clause-fault c = λ text h.
    let p = err_from_is_err_and c.from_residual.result c.from_residual.ensures.1 in
    let k = is_reading _ text c.in_default.is (rw (← c.self.view_is) at h) in
    rw (p.1, p.2, ← c.self.view_is) (end_refused _ text _ k.short (c.in_err-end_word.ensures.words text k.words_of))

pub returns : goal.returns
returns c =
    let scale = c.in_ok-end_word.ensures.scale ∙ ap (λ r. r.scale) c.self.view_is in
    let m : (text : List ℕ) → WasFed c.args.self text →
    MatchResult c.finish.result (IsGridText c.args.self.scale text) (IsRefusal c.args.self.scale text) = λ text h.
    let k = is_reading _ text c.in_default.is (subst (λ r. WasFed r text) (sym c.self.view_is) h) in
    let judged = (c.in_ok-end_word.ensures.words text k.words_of).1 in
    subst (λ d. MatchResult c.finish.result (IsGridText d text) (IsRefusal d text)) scale (finished
    c.end_word.new.self.builder.scale text c.finish.result k.short
    (judged_none c.end_word.new.self.builder (words text) judged) (c.finish.ensures (words text) judged)) in
    record {
      grid = λ text h. MatchResult-weaker c.finish.result (m text h) (λ _ k. k) (λ _ _. tt);
      fault = λ text h. MatchResult-weaker c.finish.result (m text h) (λ _ _. tt) (λ _ k. k);
      again = search rules;
    }
