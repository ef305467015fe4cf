use Rattle.std.proofs.Common.{◌≡◌, ℕ, ◌+◌, ◌<◌, ◌≤◌, vec_len, vec_capacity, get_or, length, drop}
use Rattle.std.specs.Vec.Iter.{into_iter_items}
use Rattle.tile_jobs.specs.Ends.{SeatState}
use Rattle.tile_jobs.proofs.threads.run_on_threads.Given as goal

abbrev pub invariant-loop-seat : goal.invariant-loop-seat
invariant-loop-seat g l = let all = l.fn.seats.items in let n = vec_len l.children in record {
  rest : into_iter_items l.seat-iterator ≡ drop n all;
  started : n ≤ l.starts;
  capacity : length all ≤ vec_capacity l.children;
  count : length (into_iter_items l.seat-iterator) + n ≡ length all;
  each : (s : ℕ) (h : _) (d : SeatState) → s < n → ((get_or l.children.items s h).promise.work.now
      ≡ l.work) × ((get_or l.children.items s h).promise.seat.value ≡ get_or all s d);
}
