use Rattle.std.proofs.Common.{rules, arith, refl, ◌≡◌, ◌<◌, [], ◌∷◌, ◌++◌, List}
use Rattle.std.proofs.lemmas.Grind.{common_steps}
use Rattle.tile_jobs.specs.declared.slots.JobResult.{JobResult}
use Rattle.tile_jobs.specs.Ends.{SeatState}
use Rattle.tile_jobs.proofs.Results.{answer_more}
use Rattle.tile_jobs.proofs.Workers.{seat_trans, whole_more}
use Rattle.tile_jobs.proofs.worker.work_seat.Goals as goal
use Rattle.tile_jobs.proofs.worker.work_seat.Goals.{in-None, in-Some+in-Empty}

pub loop-preserved-in-Continue-branch-2 : goal.loop-preserved-in-Continue-branch-2
loop-preserved-in-Continue-branch-2 g c =
    let s0 : SeatState = c.args.seat in
    let s : SeatState = c.loop.seat in
    let t : SeatState = c.try_take.new.self in
    let inv = c.loop.invariant in
    let was : List (JobResult _) = c.loop.answers.items in
    let job = c.in-Job.job in
    let a : JobResult _ = record { job = job; out = c.in_ok-out-in-Job.out } in
    let took = c.in-Job.ensures.took in
    let items : c.push.new.self.items ≡ was ++ a ∷ [] = grind (arith, common_steps) in
    let low : job < s.own.jobs = took.below in
    let same : s.own.jobs ≡ s0.own.jobs = inv.same.1.1 in
    let taken : t.taken ≡ s.taken ++ job ∷ [] = took.taken in
    record {
      same = seat_trans s0 s t inv.same c.in-Job.ensures.same;
      right = rw items (answer_more (g.W.Work.gives c.args.work.now) s0.own.jobs was a inv.right
          (omega arith) c.in_ok-out-in-Job.ensures.given);
      whole = λ j n. rw items (whole_more j job s.taken was a refl (inv.whole j) (rw taken at n));
    }

pub loop-preserved : goal.loop-preserved
loop-preserved g c =
    let s0 = c.args.seat in
    let s = c.loop.seat in
    let t = c.try_take.new.self in
    let inv = c.loop.invariant in
    let taken = c.in-Again.ensures.took.taken in
    record {
      same = seat_trans s0 s t inv.same c.in-Again.ensures.same;
      right = inv.right;
      whole = λ j n. inv.whole j (rw taken at n);
    }

pub returns : goal.returns
returns g c =
    let s0 = c.args.seat in
    let s = c.loop.seat in
    let inv = c.loop.invariant in
    elim c.match-next.branch [
      | in-None w ↦ absurd (search rules)
      | in-Some+in-Empty w ↦
          let t = w.try_take.new.self in
          let took = w.in-Empty.ensures.took in
          let taken = took.taken in
          rw w.seat-is (
            record {
              same = seat_trans s0 s t inv.same w.in-Empty.ensures.same;
              empty = took.marks;
              right = inv.right;
              whole = λ j n. inv.whole j (rw taken at n);
            },
            tt,
          )
    ]
