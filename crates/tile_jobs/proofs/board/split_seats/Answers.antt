use Rattle.std.proofs.Common.{rules, arith, sym, ap, ◌≡◌, ℕ, suc, ◌∷◌, length, drop, get_or, ◌∙◌, vec_len, subst, below_more}
use Rattle.std.proofs.lemmas.Grind.{common_steps}
use Rattle.std.specs.Vec.Iter.{into_iter_items}
use Rattle.tile_jobs.specs.Ends.{EndState, SeatState, IsSeat}
use Rattle.tile_jobs.proofs.Entries.{get_drop, cut_drop}
use Rattle.tile_jobs.proofs.Seats.{get_snoc}
use Rattle.tile_jobs.proofs.board.split_seats.Goals as goal

pub loop-seat-preserved : goal.loop-seat-preserved
loop-seat-preserved c =
    let all = c.args.seats.items in
    let n = vec_len c.loop-seat.owns in
    let inv = c.loop-seat.invariant in
    let seat = c.in-Some.seat in
    let held : seat ∷ into_iter_items c.next.new.self ≡ drop n all = grind (arith, common_steps) in
    let at : (d : SeatState) → seat ≡ get_or all n d = λ d. get_drop all n seat d _ held in
    let parts = c.into_parts-own.ensures.parts in
    let r = c.into_parts-own.result in
    let len = c.put.ensures.len in
    let s1 : length c.loop-seat.owns.items ≡ n = search rules in
    let s2 : length c.loop-seat.rows.items ≡ n = (let q : length c.loop-seat.rows.items
    ≡ vec_len c.loop-seat.rows = search rules in q ∙ inv.same.0) in
    let s3 : length c.loop-seat.taken.items ≡ n = (let q : length c.loop-seat.taken.items
    ≡ vec_len c.loop-seat.taken = search rules in q ∙ inv.same.1) in
    let O : ℕ → EndState → Type 0 = λ j x. (d : SeatState) → x ≡ (get_or all j d).own in
    record {
      rest = rw len (cut_drop all n seat _ held);
      count = omega (arith, inv.count, ap length inv.rest, ap length held, len);
      same = (
        c.put-in-loop-seat.ensures.len ∙ ap suc inv.same.0 ∙ sym len,
        c.put-in-loop-seat-2.ensures.len ∙ ap suc inv.same.1 ∙ sym len,
      );
      capacity = (
        omega (arith, inv.capacity.0, c.put.ensures.capacity),
        omega (arith, inv.capacity.1, c.put-in-loop-seat.ensures.capacity),
        omega (arith, inv.capacity.2, c.put-in-loop-seat-2.ensures.capacity),
      );
      seats = λ s d low. below_more (λ j. IsSeat (get_or all j d)) n (λ j l. inv.seats j d l)
          (subst IsSeat (at d) c.into_parts-own.ensures.seat) s (omega (arith, len));
      owns = λ s d o low. rw c.put.ensures.items (get_snoc O _ _ (λ j x l e.
          inv.owns j e x (omega (arith, s1))) (λ e. rw s1 (sym (ap (λ x. x.own) parts)
          ∙ ap (λ x. x.own) (at e))) s o (omega (arith, s1, len)) d);
      rows = λ s d o low. rw c.put-in-loop-seat.ensures.items
          (get_snoc (λ j x. (d : SeatState) → x.items ≡ (get_or all j d).others)
          _ _ (λ j x l e. inv.rows j e x (omega (arith, s2)))
          (λ e. rw s2 (sym (ap (λ x. x.others) parts)
          ∙ ap (λ x. x.others) (at e))) s o (omega (arith, s2, len)) d);
      taken = λ s d o low. rw c.put-in-loop-seat-2.ensures.items
          (get_snoc (λ j x. (d : SeatState) → x.items ≡ (get_or all j d).taken)
          _ _ (λ j x l e. inv.taken j e x (omega (arith, s3)))
          (λ e. rw s3 (sym (ap (λ x. x.taken) parts)
          ∙ ap (λ x. x.taken) (at e))) s o (omega (arith, s3, len)) d);
    }
