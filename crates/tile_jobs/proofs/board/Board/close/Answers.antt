use Rattle.std.proofs.Common.{rules, arith, refl, sym, ap, ◌≡◌, ℕ, ◌+◌, ◌%◌, ◌<◌, ◌≤◌, suc, [], ◌∷◌, List, length, drop, get_or, ◌∙◌, vec_len, vec_capacity, add-one, subst, inl, inr}
use Rattle.std.proofs.lemmas.Bool.{cases_eq}
use Rattle.std.proofs.lemmas.Grind.{common_steps}
use Rattle.std.specs.Vec.Iter.{into_iter_items}
use Rattle.tile_jobs.specs.Board.{deal, times}
use Rattle.tile_jobs.specs.Sums.{sum_below}
use Rattle.tile_jobs.specs.Ends.{EndState, SeatState, HasAllMarks, seat_of}
use Rattle.tile_jobs.specs.Closed.{in_seats}
use Rattle.tile_jobs.proofs.Sums.{sum_below-part}
use Rattle.tile_jobs.proofs.Closes.{IsLeft}
use Rattle.tile_jobs.proofs.Entries.{get_drop, cut_drop}
use Rattle.tile_jobs.proofs.Residues.{deals_length}
use Rattle.tile_jobs.proofs.Seats.{some_element}
use Rattle.tile_jobs.proofs.Closes.{head, own_names, own_takes, head_low, head_id, head_took, some_drop, get_of_drop, next_row, left_more, times_of, all_left}
use Rattle.tile_jobs.proofs.board.Board.close.Goals as goal

pub close_one-requires : goal.close_one-requires
close_one-requires c =
    let ss = c.args.seats.items in
    let S = vec_len c.args.seats in
    let v = c.loop-own.v in
    let inv = c.loop-own.invariant in
    let own : EndState = c.in-Some.own in
    let low : v < S = grind (arith, common_steps) in
    let own_is : (d : SeatState) → own ≡ (get_or ss v d).own = λ d.
    grind (arith, common_steps, c.split_seats.ensures.owns v d own low) in
    let z : SeatState = seat_of 0 own [] [] in
    let J = c.requires.board.0 in
    let D = c.requires.board.2 in
    let each = c.split_seats.ensures.seats in
    let n = own_names J S ss D each v own z low (own_is z) in
    record {
      own = (omega (arith, inv.size), n.1 ∙ sym inv.size);
      ids = λ s d e l far.
          let ls : s < S = omega (arith, inv.size) in
          let row = inv.rows s d z ls in (
            rw row (some_drop (get_or ss s z).others (head s v)
                (head_low J S ss D each s v z ls low far)),
            rw (row, get_of_drop) (head_id J S ss D each s v z e ls low far
                ∙ sym (ap (λ (q : EndState). q.id) (own_is z))),
          );
      capacity =
          let left = (inv.left J D).low in
          let f : ℕ → ℕ = λ u. length (deal J S u) in
          let sums = sum_below-part f (suc v) S low in
          let whole = deals_length S J c.requires.board.1 in
          let first : c.index.result.now ≡ get_or ss 0 c.index.result.now =
          grind (arith, common_steps) in
          let jobs : (get_or ss 0 c.index.result.now).own.jobs ≡ J =
          (D.numbers 0 c.index.result.now c.requires.board.1).1 in
          let jobs' : c.index.result.now.own.jobs ≡ J = ap (λ (q : SeatState). q.own.jobs) first
          ∙ jobs in
          let capacity : c.index.result.now.own.jobs ≤ c.capacity.result = c.capacity.ensures in
          let cap : vec_capacity c.in-Ok.left ≡ c.capacity.result = c.in-Ok.ensures.exact in
          let more = inv.capacity in
          let size : vec_len c.loop-own.left ≡ length c.loop-own.left.items = search rules in
          let one : length (deal own.jobs own.seats own.deque) ≡ f v = rw (n.0, n.1, n.2) refl in
          omega arith;
    }

pub loop-own-preserved : goal.loop-own-preserved
loop-own-preserved c =
    let ss = c.args.seats.items in
    let S = vec_len c.args.seats in
    let v = c.loop-own.v in
    let inv = c.loop-own.invariant in
    let all = c.split_seats.new.owns.items in
    let own : EndState = c.in-Some.own in
    let rest : List EndState = into_iter_items c.next.new.self in
    let held : own ∷ rest ≡ drop v all = grind (arith, common_steps) in
    let low : v < S = grind (arith, common_steps) in
    let own_is : (d : SeatState) → own ≡ (get_or ss v d).own = λ d. get_drop all v own own rest held
    ∙ c.split_seats.ensures.owns v d own low in
    let z : SeatState = seat_of 0 own [] [] in
    let each = c.split_seats.ensures.seats in
    let o = c.close_one.ensures in
    let p : List ℕ = o.left.0 in
    record {
      rest = rw add-one (cut_drop _ v own rest (grind (arith, common_steps)));
      count = grind (arith, common_steps);
      size = o.len ∙ inv.size;
      rows = λ s d e l. rw (o.rows s d (omega (arith, inv.size)), inv.rows s d e l)
          (next_row s v (get_or ss s e).others);
      capacity = (let a = o.capacity in let b = inv.capacity in omega arith);
      left = λ J D.
          let n = own_names J S ss D each v own z low (own_is z) in
          let deal_is : deal own.jobs own.seats own.deque ≡ deal J S v = rw (n.0, n.1, n.2) refl in
          let rows : vec_len c.loop-own.rows ≡ length c.loop-own.rows.items = search rules in
          let x =
          some_element c.loop-own.rows.items (omega (arith, inv.size, c.requires.board.1)) in
          let empty : (s : ℕ) (d : SeatState) → s < S → HasAllMarks (get_or ss s d) → p ≡ [] =
          λ s d l m.
          elim (cases_eq s v) [
            | inl q ↦ o.left.2.own_mark (ap (λ (q : EndState). q.marked) (own_is d)
                ∙ ap (λ k. (get_or ss k d).own.marked) (sym q) ∙ m.0)
            | inr far ↦ o.left.2.marks s x own (omega (arith, inv.size)) far
                (rw (inv.rows s x d l, get_of_drop)
                (m.1 (head s v) own (head_low J S ss D each s v d l low far)))
          ] in
          let once : (y : ℕ) (d : SeatState) → y % S ≡ v →
          in_seats y S ss d + times y p ≡ times y (deal J S v) = λ y d rem.
          let f : ℕ → ℕ = λ s. times y (get_or ss s d).taken in
          let reported = o.left.2.once y f
          (λ s x e l far. let ls : s < S = omega (arith, inv.size) in
          rw (inv.rows s x d ls, get_of_drop) (ap (times y) (head_took J S ss D each s v d e ls
          low far) ∙ times_of v S y (get_or ss s d).taken rem))
          (ap (λ (q : EndState). times y q.took) (own_is d) ∙ ap (times y)
          (own_takes J S ss D each v d low) ∙ times_of v S y (get_or ss v d).taken rem) in
          let sizes = ap (λ n. sum_below f n) inv.size in
          let r = ap (times y) deal_is in
          omega arith in
          rw o.left.1 (left_more J S ss v c.loop-own.left.items p low (inv.left J D) o.left.2.part.0
          (o.left.2.part.1 ∙ ap (drop o.left.2.part.0) deal_is) empty
          (λ d m. o.left.2.own_mark (ap (λ (q : EndState). q.marked) (own_is d) ∙ m)) once);
    }

pub returns-clause-closed : goal.returns-clause-closed
returns-clause-closed c = λ jobs D.
    let n = vec_len c.args.seats in
    let end : c.loop-own.v ≡ n = grind (arith, common_steps) in
    all_left jobs n c.args.seats.items c.loop-own.left.items c.requires.board.1 (subst (λ m. IsLeft
    jobs n c.args.seats.items m c.loop-own.left.items) end (c.loop-own.invariant.left jobs D))
