use Rattle.std.proofs.Common.{◌≡◌, ◌+◌, ◌*◌, ◌^◌, refl, arith, add-one}
use Rattle.std.proofs.Math.Nat.{pow-succ', pow-le-pow_right}
use Rattle.std.proofs.lemmas.Fmt.{decimal_nonempty, length-decimal-le}
use Rattle.ascii_grid.proofs.Decimals.{many_digits}
use Rattle.ascii_grid.proofs.page.digit_count.Goals as goal

pub loop-count-init : goal.loop-count-init
loop-count-init c = record { limit = refl; some = omega arith; long = omega (arith, decimal_nonempty) }

pub returns-then-number-limit-clause-value : goal.returns-then-number-limit-clause-value
returns-then-number-limit-clause-value c =
    omega (
      arith,
      length-decimal-le _ c.args.number c.loop-count.invariant.some (omega (arith))
          (omega (arith, c.ranges.number.fits)),
    )

pub overflow_mul-limit : goal.overflow_mul-limit
overflow_mul-limit c =
    omega (arith, pow-le-pow_right {n = 10} (omega arith) {i = c.loop-count.count} {j = 18} (omega arith))

pub loop-count-preserved : goal.loop-count-preserved
loop-count-preserved c =
    let limit : c.loop-count.limit * 10 ≡ 10 ^ (c.loop-count.count + 1) =
    rw (add-one, pow-succ', c.loop-count.invariant.limit) (omega arith) in
    record {
      limit = limit;
      some = omega arith;
      long = omega (
        arith,
        many_digits c.args.number (omega (arith, c.ranges.number.fits)) c.loop-count.count
            (omega (arith, c.if-number-limit.false, c.loop-count.invariant.limit)),
      );
    }

pub returns-clause-value : goal.returns-clause-value
returns-clause-value c =
    omega (
      arith,
      length-decimal-le 19 c.args.number (omega arith) (omega (arith, c.requires))
          (omega (arith, c.ranges.number.fits)),
    )
