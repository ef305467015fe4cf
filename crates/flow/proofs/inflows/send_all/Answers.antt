use Rattle.std.proofs.Common.{◌≡◌, ◌+◌, arith}
use Rattle.tiles.specs.RimNumbers.{rim_number_count}
use Rattle.flow.specs.Inflows.{entering}
use Rattle.tile_jobs.proofs.Sums.{sum_more, sum_below-part}
use Rattle.flow.proofs.inflows.send_all.Goals as goal

pub send-requires-clause-fits : goal.send-requires-clause-fits
send-requires-clause-fits c k h = omega (
  arith,
  c.loop-number.invariant.each k h,
  sum_more,
  sum_below-part (entering c.args.tiling.now c.args.targets.now c.args.totals.now k) (c.loop-number.number + 1)
      (rim_number_count c.args.tiling.now) (omega arith),
)

pub loop-number-preserved : goal.loop-number-preserved
loop-number-preserved c = record {
  size = cc;
  each = λ k h. omega (arith, c.send.ensures.each k h, c.loop-number.invariant.each k h, sum_more);
}

pub returns : goal.returns
returns c =
    let all : c.loop-number.number ≡ rim_number_count c.args.tiling.now = omega arith in
    record { size = c.loop-number.invariant.size; each = λ k h. cc (c.loop-number.invariant.each k h) }
