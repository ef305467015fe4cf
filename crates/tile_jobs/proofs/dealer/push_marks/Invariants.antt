use Rattle.std.proofs.Common.{◌≡◌, ◌+◌, ◌≤◌, length}
use Rattle.crossbeam_deque.specs.Handles.{worker_view, worker_index, worker_capacity, SameWorker}
use Rattle.tile_jobs.specs.Board.{deal}
use Rattle.tile_jobs.specs.Rule.{dealing}
use Rattle.tile_jobs.proofs.dealer.push_marks.Given as goal

abbrev pub invariant-loop : goal.invariant-loop
invariant-loop g l = record {
  same : SameWorker l.initial.worker l.worker;
  index : worker_index l.worker ≡ length (deal g.D.DequeKey.jobs l.seats g.D.DequeKey.deque)
      + l.counter;
  view : worker_view l.worker
      ≡ dealing g.D.DequeKey.jobs l.seats g.D.DequeKey.deque (worker_index l.worker);
  capacity : length (deal g.D.DequeKey.jobs l.seats g.D.DequeKey.deque)
      + l.seats ≤ worker_capacity l.worker;
}
