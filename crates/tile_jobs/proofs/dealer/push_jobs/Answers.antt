use Rattle.std.proofs.Common.{◌+◌, ◌*◌, arith, sym, ◌∙◌}
use Rattle.tile_jobs.proofs.Residues.{feed_next_job}
use Rattle.tile_jobs.proofs.Rounds.{deal_before_round, round_below, round_remainder}
use Rattle.tile_jobs.proofs.dealer.push_jobs.Goals as goal

pub overflow_mul-round : goal.overflow_mul-round
overflow_mul-round g c =
    let below = round_below c.args.jobs c.args.seats c.args.v _ c.loop-round.round
    c.requires.seat c.count_jobs-round-end.ensures.count c.loop-round-test.true in
    omega (arith, below, c.ranges.jobs.fits)

pub overflow_add-v : goal.overflow_add-v
overflow_add-v g c = let below = round_below c.args.jobs c.args.seats c.args.v _ c.loop-round.round
    c.requires.seat c.count_jobs-round-end.ensures.count c.loop-round-test.true in
    omega (arith, below, c.ranges.jobs.fits)

pub push-requires-clause-next : goal.push-requires-clause-next
push-requires-clause-next g c =
    let below = round_below c.args.jobs c.args.seats c.args.v _ c.loop-round.round c.requires.seat
    c.count_jobs-round-end.ensures.count c.loop-round-test.true in
    let size = deal_before_round c.args.seats c.args.v c.loop-round.round c.requires.seat in
    rw (c.requires.place.0, c.requires.place.1, c.requires.place.2)
    (feed_next_job c.args.jobs c.args.seats c.args.v
    (c.args.v + c.loop-round.round * c.args.seats) _ below
    (round_remainder c.args.seats c.args.v c.loop-round.round c.requires.seat)
    (c.loop-round.invariant.index ∙ sym size))
