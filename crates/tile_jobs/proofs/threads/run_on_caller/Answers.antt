use Rattle.std.proofs.Common.{rules, arith, ap, subst, ◌≡◌, suc, [], ◌∷◌, ◌++◌, length, drop, get_or, ◌∙◌, vec_len}
use Rattle.std.proofs.lemmas.Grind.{common_steps}
use Rattle.std.specs.Vec.Iter.{into_iter_items}
use Rattle.tile_jobs.specs.Ends.{SeatState}
use Rattle.tile_jobs.specs.Workers.{IsOutcome}
use Rattle.tile_jobs.proofs.Entries.{get_drop, cut_drop}
use Rattle.tile_jobs.proofs.Seats.{get_snoc}
use Rattle.tile_jobs.proofs.threads.run_on_caller.Goals as goal

pub loop-seat-preserved : goal.loop-seat-preserved
loop-seat-preserved g c =
    let all = c.args.seats.items in
    let n = vec_len c.loop-seat.results in
    let inv = c.loop-seat.invariant in
    let seat = c.in-Some.seat in
    let rest = into_iter_items c.next.new.self in
    let held : seat ∷ rest ≡ drop n all = grind (arith, common_steps) in
    let was = c.loop-seat.results.items in
    let out = c.work_seat.result in
    let gives = g.W.Work.gives c.args.work.now in
    let items : c.push.new.self.items ≡ was ++ out ∷ [] = grind (arith, common_steps) in
    let size : length was ≡ n = search rules in
    let len : vec_len c.push.new.self ≡ suc n = grind (arith, common_steps) in
    record {
      rest = rw len (cut_drop all n seat rest held);
      count = omega (arith, inv.count, ap length inv.rest, ap length held, len);
      each = λ s r d low. rw items (get_snoc
          (λ j x. (d : SeatState) → IsOutcome gives (get_or all j d) x) was out (λ j x l e.
          inv.each j x e (omega (arith, size))) (λ e. rw size (subst (λ q. IsOutcome gives q out)
          (get_drop all n seat e rest held) c.work_seat.ensures)) s r (omega (arith, size, len)) d);
    }

pub returns-clause-outcomes : goal.returns-clause-outcomes
returns-clause-outcomes g c =
    let all = c.args.seats.items in
    let inv = c.loop-seat.invariant in
    let size : length c.loop-seat.results.items ≡ vec_len c.loop-seat.results = search rules in
    let whole : vec_len c.loop-seat.results ≡ length all = grind arith in
    record {
      count = size ∙ whole;
      each = λ s d r low. inv.each s r d (omega arith);
    }
