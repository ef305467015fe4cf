use Rattle.std.proofs.Common.{arith, sym, subst, ◌≡◌, ◌+◌, ◌<◌, ◌∙◌, length, refl}
use Rattle.std.proofs.lemmas.Grind.{common_steps}
use Rattle.crossbeam_deque.specs.Handles.{worker_view, worker_index, worker_flavor}
use Rattle.tile_jobs.specs.Board.{deal}
use Rattle.tile_jobs.specs.Rule.{dealing}
use Rattle.tile_jobs.proofs.Steps.{begins}
use Rattle.tile_jobs.proofs.Residues.{feed_length, once_more}
use Rattle.tile_jobs.proofs.dealer.Dealer.new.Goals as goal

pub fifo_as-requires : goal.fifo_as-requires
fifo_as-requires g c = begins

pub invariant_of-result : goal.invariant_of-result
invariant_of-result g c =
    let J = g.D.DequeKey.jobs in
    let S = g.D.DequeKey.seats in
    let V = g.D.DequeKey.deque in
    let n = worker_index c.push_marks.new.worker in
    let seats = c.requires.place.1 in
    let size =
    subst (λ m. n ≡ length (deal J m V) + m) (sym seats) c.push_marks.ensures.index in
    let view = subst (λ m.
    worker_view c.push_marks.new.worker ≡ dealing J m V n) (sym seats) c.push_marks.ensures.view in
    let some_entry : 0 < n = omega (arith, size, seats, c.requires.seat) in
    let all = feed_length J S V in
    let flavor : worker_flavor c.push_marks.new.worker ≡ 0 = grind (arith, common_steps) in (
      rw (view, once_more n J some_entry, once_more n S some_entry, once_more n V some_entry)
          (refl, size ∙ sym all, refl, refl, refl),
      flavor,
    )
