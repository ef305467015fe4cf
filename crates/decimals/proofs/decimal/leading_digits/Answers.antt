use Rattle.std.proofs.Common.{arith, rules}
use Rattle.decimals.proofs.Scaled.{tenfold_small}
use Rattle.decimals.proofs.decimal.leading_digits.Goals as goal

pub overflow_mul-number : goal.overflow_mul-number
overflow_mul-number c = let few =
    tenfold_small c.loop-at.number c.loop-at.at c.loop-at.invariant.small (search rules) in grind (arith, few)

pub overflow_add-number : goal.overflow_add-number
overflow_add-number c = let few =
    tenfold_small c.loop-at.number c.loop-at.at c.loop-at.invariant.small (search rules) in grind (arith, few)
