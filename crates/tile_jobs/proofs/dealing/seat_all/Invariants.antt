use Rattle.std.proofs.Common.{◌≡◌, ℕ, ◌+◌, ◌<◌, vec_len, get_or, length, drop, []}
use Rattle.std.specs.Vec.Iter.{into_iter_items}
use Rattle.tile_jobs.specs.Ends.{EndState, SeatState, seat_of, without}
use Rattle.tile_jobs.proofs.dealing.seat_all.Given as goal

abbrev pub invariant-loop-own : goal.invariant-loop-own
invariant-loop-own l = let all = l.fn.ends.owns.items in record {
  rest : into_iter_items l.own-iterator ≡ drop l.number all;
  count : length (into_iter_items l.own-iterator) + l.number ≡ length all;
  size : vec_len l.rows + l.number ≡ length all;
  len : vec_len l.seats ≡ l.number;
  rows : (i : ℕ) (d : _) → i < vec_len l.rows →
      (get_or l.rows.items i d).items ≡ without (l.number + i) all;
  each : (s : ℕ) (d : SeatState) (e : EndState) → s < l.number →
      get_or l.seats.items s d ≡ seat_of s (get_or all s e) (without s all) [];
}
