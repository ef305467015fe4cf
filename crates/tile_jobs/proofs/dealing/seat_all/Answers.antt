use Rattle.std.proofs.Common.{arith, ap, ◌≡◌, ℕ, ◌+◌, ◌<◌, ◌∙◌, length, get_or, List, ◌++◌, ◌∷◌, [], vec_len, add-one}
use Rattle.std.proofs.lemmas.Grind.{common_steps}
use Rattle.std.proofs.lemmas.List.{get_or-drop}
use Rattle.tile_jobs.specs.Ends.{EndState, SeatState, seat_of, without}
use Rattle.tile_jobs.proofs.Entries.{cut_drop}
use Rattle.tile_jobs.proofs.Seats.{fresh_seat, get_snoc}
use Rattle.tile_jobs.proofs.dealing.seat_all.Goals as goal

pub new-requires-clause-seat : goal.new-requires-clause-seat
new-requires-clause-seat c =
    let all = c.args.ends.owns.items in
    let n = c.loop-own.number in
    let own = c.in-Some.own in
    let seats = vec_len c.args.ends.owns in
    let size : length all ≡ seats = grind (arith, common_steps) in
    let low : n < seats = grind (arith, common_steps) in
    let was = c.loop-own.invariant.rows 0 c.remove-others.result in
    let row : c.remove-others.result.items ≡ without n all = grind (arith, common_steps, was) in
    let own_is : own ≡ get_or all n own = grind (arith, common_steps) in
    rw row (fresh_seat _ seats n all own c.requires.owns size low own_is)

pub loop-own-preserved : goal.loop-own-preserved
loop-own-preserved c =
    let all = c.args.ends.owns.items in
    let n = c.loop-own.number in
    let own : EndState = c.in-Some.own in
    let was = c.loop-own.invariant.rows 0 c.remove-others.result (grind (arith, common_steps)) in
    let row : c.remove-others.result.items ≡ without n all =
    ap (λ v. v.items) c.remove-others.ensures.value ∙ was ∙ ap (λ k. without k all) (omega arith) in
    let seats : List SeatState = c.loop-own.seats.items in
    let seat : SeatState = c.in_ok-new.field-0 in
    let items : c.push.new.self.items ≡ seats ++ seat ∷ [] = grind (arith, common_steps) in
    let size : length seats ≡ n = grind (arith, common_steps) in
    let P : ℕ → SeatState → Type 0 = λ s x. (e : EndState) →
    x ≡ seat_of s (get_or all s e) (without s all) [] in
    let made : seat ≡ seat_of n own c.remove-others.result.items [] = c.in_ok-new.ensures in
    let last : P (length seats) seat = λ e.
    let own_is : own ≡ get_or all n e = grind (arith, common_steps) in
    rw (size, ← row, ← own_is) made in
    record {
      rest = rw add-one (cut_drop all n own _ (grind (arith, common_steps)));
      count = grind (arith, common_steps);
      size = omega (arith, c.loop-own.invariant.size, c.remove-others.ensures.len);
      len = grind (arith, common_steps);
      rows = λ i d low. ap (λ v. v.items) (ap (λ l. get_or l i d) c.remove-others.ensures.items
          ∙ get_or-drop 1 c.loop-own.rows.items i d) ∙ c.loop-own.invariant.rows (1 + i) d
          (omega (arith, c.remove-others.ensures.len)) ∙ ap (λ k. without k all) (omega arith);
      each = λ s d e low. rw items (get_snoc P seats seat (λ j x l e'.
          c.loop-own.invariant.each j x e' (omega (arith, size))) last s d (omega (arith, size)) e);
    }
