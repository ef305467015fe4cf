use Rattle.std.proofs.Common.{rules, arith, sym, subst, refl, ◌∙◌, true, false}
use Rattle.std.proofs.lemmas.Int.{to_z-of_z}
use Rattle.std.proofs.lemmas.List.{take_rest}
use mir.Val.{SFits}
use mir.Syntax.{w64}
use Rattle.decimals.specs.Plain.{IsPlain}
use Rattle.decimals.proofs.Scaled.{IsPlain-signed}
use Rattle.decimals.proofs.decimal.plain_number.Goals as goal

pub returns-then-is_negative : goal.returns-then-is_negative
returns-then-is_negative c =
    let fits : SFits w64 c.signed.result = search rules in
    subst (IsPlain c.args.scale c.args.bytes.now _)
    (sym (to_z-of_z w64 c.signed.result fits ∙ c.signed.ensures))
    (IsPlain-signed c.args.scale c.args.bytes.now _ true _ _ _ (sym c.is_negative.ensures
    ∙ c.if-is_negative.true) (take_rest c.args.bytes.now 1) (omega arith) c.in_ok-len.ensures)

pub returns : goal.returns
returns c =
    let fits : SFits w64 c.signed-2.result = search rules in
    subst (IsPlain c.args.scale c.args.bytes.now _)
    (sym (to_z-of_z w64 c.signed-2.result fits ∙ c.signed-2.ensures))
    (IsPlain-signed c.args.scale c.args.bytes.now _ false _ _ _ (sym c.is_negative.ensures
    ∙ c.if-is_negative.false) refl (omega arith) c.in_ok-len-2.ensures)
