use Rattle.std.proofs.Common.{rules, arith, ap, ◌≡◌, ◌∷◌, length, drop, get_or, ◌∙◌, vec_len}
use Rattle.std.proofs.lemmas.Grind.{common_steps}
use Rattle.std.specs.Vec.Iter.{into_iter_items}
use Rattle.tile_jobs.specs.Ends.{SeatState}
use Rattle.tile_jobs.proofs.Entries.{get_drop, cut_drop}
use Rattle.tile_jobs.proofs.Seats.{get_snoc}
use Rattle.tile_jobs.proofs.threads.run_on_threads.Goals as goal

pub loop-seat-preserved : goal.loop-seat-preserved
loop-seat-preserved g c =
    let all = c.args.seats.items in
    let n = vec_len c.loop-seat.children in
    let inv = c.loop-seat.invariant in
    let seat = c.in-Some.seat in
    let rest = into_iter_items c.next.new.self in
    let held : seat ∷ rest ≡ drop n all = grind (arith, common_steps) in
    let was = c.loop-seat.children.items in
    let child = c.in-Ok.child in
    let items = c.put.ensures.items in
    let size : length was ≡ n = search rules in
    let len = c.put.ensures.len in
    let same_work : child.promise.work.now ≡ c.args.work.now = grind (arith, common_steps) in
    let same_seat : child.promise.seat.value ≡ seat = grind (arith, common_steps) in
    record {
      rest = rw len (cut_drop all n seat rest held);
      count = omega (arith, inv.count, ap length inv.rest, ap length held, len);
      started = omega (arith, len);
      capacity = omega (arith, inv.capacity, c.put.ensures.capacity);
      each = λ s h d low. rw items (get_snoc (λ j x. (d : SeatState) →
          (x.promise.work.now ≡ c.args.work.now) × (x.promise.seat.value ≡ get_or all j d))
          was child (λ j x l e. inv.each j x e (omega (arith, size)))
          (λ e. (same_work, rw size (same_seat ∙ get_drop all n seat e rest held))) s h
          (omega (arith, size, len)) d);
    }
