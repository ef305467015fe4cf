use Rattle.std.proofs.Common.{arith, refl, ◌≡◌, ◌+◌, ◌-◌, suc, length}
use Rattle.crossbeam_deque.specs.Handles.{worker_view}
use Rattle.tile_jobs.specs.Rule.{taken, all_taken}
use Rattle.tile_jobs.proofs.Closings.{feed_job_at, feed_end_at}
use Rattle.tile_jobs.proofs.closing.Closing.next.Goals as goal

pub returns-in-Job : goal.returns-in-Job
returns-in-Job c =
    let u = worker_view c.self.inside.worker in
    let j = c.in-Job.job in
    let t = c.in-Job.ensures.took in
    let none = t.0.unmarked in
    let at : taken u ≡ length (all_taken u) = omega (arith, none) in
    let next = feed_job_at _ _ _ _ j _ (rw at at t.1.1) in
    rw (← c.self.view_is, t.0.view, c.pop_next.ensures.same.0) (refl, none, next)

pub returns-in-End : goal.returns-in-End
returns-in-End c =
    let u = worker_view c.self.inside.worker in
    let t = c.in-End.ensures.took in
    let unmarked = rw (← c.self.view_is) at c.requires.unmarked in
    let leave = c.self.invariant.0.3 unmarked in
    let back : u.marks_due - 1 + suc u.marks ≡ u.marks_due + u.marks = omega arith in
    let past = feed_end_at _ _ _ _ _ t.1.1 in
    rw (← c.self.view_is, t.0, c.pop_next.ensures.same.0)
    (rw back, λ z. omega (arith, past, z))
