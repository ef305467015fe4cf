use Rattle.std.proofs.Common.{rules, ◌∙◌, sym, ap, Some, cond, pos, neg_ℤ}
use mir.Val.{SFits}
use mir.Syntax.{w64}
use Rattle.std.proofs.lemmas.Int.{to_z-of_z}
use Rattle.decimals.proofs.Scaled.{scaled_value-not_digits, scaled_value-digits}
use Rattle.decimals.proofs.decimal.scaled_value.Goals as goal

pub returns-then-not-are_digits_in_all : goal.returns-then-not-are_digits_in_all
returns-then-not-are_digits_in_all c =
    let u = c.without_sign.ensures in
    sym (scaled_value-not_digits c.args.scale c.args.word.now c.split_at_point.result.0.now
    c.split_at_point.result.1.now (sym c.has_exponent.ensures ∙ c.if-has_exponent.false)
    (rw u at c.split_at_point.ensures.before) (rw u at c.split_at_point.ensures.after)
    (sym c.are_digits_in_all.ensures ∙ c.if-not-are_digits_in_all.true))

pub returns-in_err-size : goal.returns-in_err-size
returns-in_err-size c =
    let u = c.without_sign.ensures in
    c.from_residual.ensures ∙ sym (scaled_value-digits c.args.scale c.args.word.now _ _ _
    (sym c.has_exponent.ensures ∙ c.if-has_exponent.false) (rw u at c.split_at_point.ensures.before)
    (rw u at c.split_at_point.ensures.after) (sym c.are_digits_in_all.ensures
    ∙ c.if-not-are_digits_in_all.false) c.in_err-size.ensures.value)

pub returns : goal.returns
returns c =
    let u = c.without_sign.ensures in
    let value = sym (scaled_value-digits c.args.scale c.args.word.now _ _ _
    (sym c.has_exponent.ensures ∙ c.if-has_exponent.false) (rw u at c.split_at_point.ensures.before)
    (rw u at c.split_at_point.ensures.after) (sym c.are_digits_in_all.ensures
    ∙ c.if-not-are_digits_in_all.false) c.in_ok-size.ensures.value) in
    let fits : SFits w64 c.signed.result = search rules in
    ap Some (to_z-of_z w64 c.signed.result fits ∙ c.signed.ensures ∙ ap (λ b.
    cond b (neg_ℤ (pos c.in_ok-size.size)) (pos c.in_ok-size.size)) c.is_negative.ensures) ∙ value
