use Rattle.std.proofs.Common.{◌≡◌, ℕ, ◌+◌, ◌-◌, ◌<◌, ◌≤◌, cond, nat_lt, vec_len, vec_capacity, get_or, length, drop}
use Rattle.std.specs.Vec.Iter.{into_iter_items}
use Rattle.tile_jobs.specs.Ends.{SeatState, IsDeal}
use Rattle.tile_jobs.proofs.Closes.{IsLeft}
use Rattle.tile_jobs.proofs.board.Board.close.Given as goal

abbrev pub invariant-loop-own : goal.invariant-loop-own
invariant-loop-own l = let ss = l.fn.seats.items in let n = vec_len l.fn.seats in record {
  rest : into_iter_items l.own-iterator ≡ drop l.v (into_iter_items l.initial.own-iterator);
  count : length (into_iter_items l.own-iterator) + l.v ≡ n;
  size : vec_len l.rows ≡ n;
  rows : (s : ℕ) (d : _) (e : SeatState) → s < n →
      (get_or l.rows.items s d).items ≡ drop (l.v - cond (nat_lt s l.v) 1 0) (get_or ss s e).others;
  capacity : vec_capacity l.initial.left ≤ vec_capacity l.left;
  left : (jobs : ℕ) → IsDeal jobs n ss → IsLeft jobs n ss l.v l.left.items;
}
