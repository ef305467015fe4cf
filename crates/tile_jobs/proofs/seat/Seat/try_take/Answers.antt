use Rattle.std.proofs.Common.{rules, arith, ◌≡◌, length, vec_len, List, inr}
use Rattle.std.proofs.lemmas.Grind.{common_steps}
use Rattle.tile_jobs.specs.Ends.{EndState}
use Rattle.tile_jobs.proofs.Seats.{kept_own, own_took, own_room, others_took, others_rise, others_room}
use Rattle.tile_jobs.proofs.seat.Seat.try_take.Goals as goal

pub put-requires : goal.put-requires
put-requires c =
    let capacity = own_room _ c.in-Some.job _ c.self.invariant.0 c.in-Some.ensures in
    let size : vec_len c.self.inside.taken ≡ length c.self.inside.taken.items = search rules in
    omega (arith, capacity, c.self.invariant.1, size)

pub invariant_of-self : goal.invariant_of-self
invariant_of-self c =
    let jobs = c.in-Some.ensures.same.1 in (
      rw c.put.ensures.items (own_took _ _ _ c.self.invariant.0 c.in-Some.ensures),
      omega (arith, c.self.invariant.1, c.put.ensures.capacity),
    )

pub put-requires-in-Job : goal.put-requires-in-Job
put-requires-in-Job c =
    let jobs : c.take.new.self.jobs ≡ c.self.inside.own.jobs = c.in_default.ensures.0.0.1 in
    let seat = kept_own _ c.take.new.self c.self.invariant.0 c.in_default.ensures.0 in
    let fs : List EndState = c.steal_round.new.others.items in
    let capacity = others_room _ c.in-Job.job fs seat c.in-Job.ensures.ends in
    let size : vec_len c.self.inside.taken ≡ length c.self.inside.taken.items = search rules in
    omega (arith, capacity, c.self.invariant.1, size)

pub invariant_of-self-in-Job : goal.invariant_of-self-in-Job
invariant_of-self-in-Job c =
    let jobs : c.take.new.self.jobs ≡ c.self.inside.own.jobs = c.in_default.ensures.0.0.1 in
    let seat = kept_own _ c.take.new.self c.self.invariant.0 c.in_default.ensures.0 in
    let fs : List EndState = c.steal_round.new.others.items in
    let len : length fs ≡ length c.self.inside.others.items = grind (arith, common_steps) in (
      rw c.put-in-Job.ensures.items (others_took _ c.in-Job.job fs seat c.in-Job.ensures.ends len),
      omega (arith, c.self.invariant.1, c.put-in-Job.ensures.capacity),
    )

pub returns-in-Job-clause-took : goal.returns-in-Job-clause-took
returns-in-Job-clause-took c =
    let own = c.take.new.self in
    let seat = kept_own _ own c.self.invariant.0 c.in_default.ensures.0 in
    let j = c.in-Job.job in
    let fs = c.steal_round.new.others.items in
    let t = c.in-Job.ensures.ends in
    let seats = c.in_default.ensures.0.0.2 in
    let below = rw (seat.others_are t.0 own t.1).0 at (t.2 own).below in
    rw (← c.self.view_is)
    (record {
      below = rw c.in_default.ensures.0.0.1 at below;
      taken = c.put-in-Job.ensures.items;
      rises = rw seats at (others_rise _ j fs seat t);
      own_first = inr c.in_default.ensures.1;
    })
