use Rattle.std.proofs.Common.{IfErr, sym, subst}
use Rattle.request.specs.WordsFaults.{IsFaultOf}
use Rattle.request.proofs.Requested.{words_given_some}
use Rattle.request.proofs.words.parse.Goals as goal

pub returns-else-is_empty-clause-fault : goal.returns-else-is_empty-clause-fault
returns-else-is_empty-clause-fault c =
    subst (λ words. IfErr c.requested_options-else-is_empty.result (IsFaultOf words))
    (sym (words_given_some _ (sym c.if-is_empty.ensures)))
    c.requested_options-else-is_empty.ensures.fault
