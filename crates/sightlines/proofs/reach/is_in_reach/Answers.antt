use Rattle.std.proofs.Common.{arith}
use Rattle.std.proofs.lemmas.Nat.{mul-le}
use Rattle.sightlines.proofs.reach.is_in_reach.Goals as goal

pub overflow_add-result : goal.overflow_add-result
overflow_add-result c =
    let rows = mul-le c.abs_diff-rows.result c.abs_diff-rows.result 4096 4096 (omega arith) (omega arith) in
    let cols = mul-le c.abs_diff-cols.result c.abs_diff-cols.result 4096 4096 (omega arith) (omega arith) in
    omega (arith, rows, cols)
