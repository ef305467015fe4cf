use Rattle.std.proofs.Common.{◌≡◌, ℕ, ◌+◌, ◌<◌, ◌≤◌, vec_len, vec_capacity, get_or, length, drop}
use Rattle.std.specs.Vec.Iter.{into_iter_items}
use Rattle.tile_jobs.specs.Ends.{EndState, SeatState, IsSeat}
use Rattle.tile_jobs.proofs.board.split_seats.Given as goal

abbrev pub invariant-loop-seat : goal.invariant-loop-seat
invariant-loop-seat l = let all = l.fn.seats.items in let n = vec_len l.owns in record {
  rest : into_iter_items l.seat-iterator ≡ drop n all;
  count : length (into_iter_items l.seat-iterator) + n ≡ length all;
  same : (vec_len l.rows ≡ n) × (vec_len l.taken ≡ n);
  capacity : (length all ≤ vec_capacity l.owns) × (length all ≤ vec_capacity l.rows)
      × (length all ≤ vec_capacity l.taken);
  seats : (s : ℕ) (d : SeatState) → s < n → IsSeat (get_or all s d);
  owns : (s : ℕ) (d : SeatState) (o : EndState) → s < n →
      get_or l.owns.items s o ≡ (get_or all s d).own;
  rows : (s : ℕ) (d : SeatState) (o : _) → s < n →
      (get_or l.rows.items s o).items ≡ (get_or all s d).others;
  taken : (s : ℕ) (d : SeatState) (o : _) → s < n →
      (get_or l.taken.items s o).items ≡ (get_or all s d).taken;
}
