use Rattle.std.proofs.Common.{arith, ◌≡◌, ◌∙◌, ap, sym, take, drop, replicate, length, min, fold, ◌+◌, ◌*◌, ◌-◌, true, false, ◌==◌, refl}
use Rattle.std.specs.List.{list_all}
use Rattle.std.proofs.lemmas.List.{take_rest, drop_min, take_min}
use Rattle.terrain.specs.Decimal.{number_of}
use Rattle.decimals.proofs.Scaled.{number_of-padded, size-kept}
use Rattle.decimals.proofs.decimal.scaled_size.Goals as goal

pub returns-then-not-only_zeros-clause-value : goal.returns-then-not-only_zeros-clause-value
returns-then-not-only_zeros-clause-value c =
    let at : c.min-kept.result ≡ min c.args.scale (length c.args.fraction.now) = omega arith in
    let kept : drop c.min-kept.result c.args.fraction.now ≡ drop c.args.scale c.args.fraction.now =
    ap (λ n. drop n c.args.fraction.now) at ∙ drop_min c.args.scale c.args.fraction.now in
    let zeros : list_all (λ b. b == 48) (drop c.args.scale c.args.fraction.now) ≡ false =
    ap (list_all (λ b. b == 48)) (sym kept) ∙ sym (c.only_zeros.ensures ∙ ap (list_all
    (λ b. b == 48)) (take_rest c.args.fraction.now c.min-kept.result)) ∙ c.if-not-only_zeros.true in
    rw zeros refl

pub returns-clause-value : goal.returns-clause-value
returns-clause-value c =
    let at : c.min-kept.result ≡ min c.args.scale (length c.args.fraction.now) = omega arith in
    let kept : drop c.min-kept.result c.args.fraction.now ≡ drop c.args.scale c.args.fraction.now =
    ap (λ n. drop n c.args.fraction.now) at ∙ drop_min c.args.scale c.args.fraction.now in
    let zeros : list_all (λ b. b == 48) (drop c.args.scale c.args.fraction.now) ≡ true =
    ap (list_all (λ b. b == 48)) (sym kept) ∙ sym (c.only_zeros.ensures ∙ ap (list_all (λ b.
    b == 48)) (take_rest c.args.fraction.now c.min-kept.result)) ∙ c.if-not-only_zeros.false in
    let counted : take c.min-kept.result c.args.fraction.now
    ≡ take c.args.scale c.args.fraction.now = ap (λ n. take n c.args.fraction.now) at
    ∙ take_min c.args.scale c.args.fraction.now in
    let left : c.from-2.result - c.min-kept.result
    ≡ c.args.scale - min c.args.scale (length c.args.fraction.now) = omega arith in
    let first = c.digits_after.ensures.value 0 refl in
    let second = c.digits_after-number.ensures.value (number_of c.args.whole.now) first in
    let third = c.zeros_after-size.ensures.value _ second in
    let size = third ∙ ap (λ n. min n 1000000000000000001) (ap (λ z.
    fold (λ n b. 10 * n + (b - 48)) (fold (λ n b. 10 * n + (b - 48)) (number_of c.args.whole.now) z)
    (replicate (c.from-2.result - c.min-kept.result) 48)) counted
    ∙ ap (λ k. fold (λ n b. 10 * n + (b - 48)) (fold (λ n b. 10 * n + (b - 48))
    (number_of c.args.whole.now) (take c.args.scale c.args.fraction.now)) (replicate k 48)) left
    ∙ sym (number_of-padded c.args.scale c.args.whole.now c.args.fraction.now)) in
    c.then_some.ensures ∙ size-kept _ _ c.zeros_after-size.result zeros size
