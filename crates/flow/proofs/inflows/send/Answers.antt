use Rattle.std.proofs.Common.{◌≡◌, ◌+◌, ◌^◌, ◌<◌, Option, cond, eqb, get_or, sym, ap, ◌∙◌, arith, rules}
use Rattle.std.proofs.lemmas.Bool.{cond-true, eq-eqb}
use Rattle.terrain.specs.declared.place.Place.{Place}
use Rattle.flow.specs.Inflows.{sent_to}
use Rattle.flow.proofs.Sending.{added_at}
use Rattle.flow.proofs.inflows.send.Goals as goal

pub overflow_add-listed : goal.overflow_add-listed
overflow_add-listed c =
    let number = c.rim_number.result in
    let sent : sent_to c.args.tiling.now number c.args.target c.args.amount ≡ c.args.amount =
    ap (λ o. sent_to c.args.tiling.now number o c.args.amount) c.in-Some.is ∙
    cond-true _ c.args.amount 0 (eq-eqb _ number (sym c.rim_number.ensures.value)) in
    let fits : get_or c.args.listed.now number 0 + c.args.amount < 2 ^ 32 =
    omega (arith, sent, c.requires.fits number c.rim_number.ensures.below) in
    search rules

pub returns-clause-each : goal.returns-clause-each
returns-clause-each c = λ k h. added_at c.args.listed.now c.rim_number.result c.args.amount k
    (omega (arith, c.rim_number.ensures.below, c.requires.size)) ∙
    ap (λ n. get_or c.args.listed.now k 0 + cond (eqb n k) c.args.amount 0) c.rim_number.ensures.value ∙
    ap (λ (o : Option Place). get_or c.args.listed.now k 0 + sent_to c.args.tiling.now k o c.args.amount)
    (sym c.in-Some.is)
