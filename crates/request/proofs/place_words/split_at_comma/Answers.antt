use Rattle.std.proofs.Common.{◌≡◌, ℕ, ◌+◌, ◌-◌, List, length, take, drop, sym, ◌∙◌, arith}
use Rattle.std.proofs.lemmas.List.{take_all, length-drop}
use Rattle.request.proofs.Commas.{split_some, split_none}
use Rattle.request.proofs.place_words.split_at_comma.Goals as goal

pub returns-in_err-at-clause-none : goal.returns-in_err-at-clause-none
returns-in_err-at-clause-none c = rw c.from_residual.ensures
    (split_none _ (sym c.comma_at.ensures ∙ c.in_err-at.was))

pub returns-clause-some : goal.returns-clause-some
returns-clause-some c =
    let at : ℕ = c.in_ok-at.at in
    let bytes : List ℕ = c.args.bytes.now in
    let rest : take (length bytes - (at + 1)) (drop (at + 1) bytes) ≡ drop (at + 1) bytes =
    take_all _ _ (omega (arith, length-drop (at + 1) bytes)) in
    rw rest (split_some bytes at (sym c.comma_at.ensures ∙ c.in_ok-at.was))
