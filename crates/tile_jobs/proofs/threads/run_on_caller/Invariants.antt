use Rattle.std.proofs.Common.{◌≡◌, ℕ, ◌+◌, ◌<◌, vec_len, get_or, length, drop}
use Rattle.std.specs.Vec.Iter.{into_iter_items}
use Rattle.tile_jobs.specs.Ends.{SeatState}
use Rattle.tile_jobs.specs.Workers.{IsOutcome}
use Rattle.tile_jobs.proofs.threads.run_on_caller.Given as goal

abbrev pub invariant-loop-seat : goal.invariant-loop-seat
invariant-loop-seat g l = let all = l.fn.seats.items in let n = vec_len l.results in record {
  rest : into_iter_items l.seat-iterator ≡ drop n all;
  count : length (into_iter_items l.seat-iterator) + n ≡ length all;
  each : (s : ℕ) (r : _) (d : SeatState) → s < n →
      IsOutcome (g.W.Work.gives l.work) (get_or all s d) (get_or l.results.items s r);
}
