use Rattle.std.proofs.Common.{◌≡◌}
use Rattle.crossbeam_deque.specs.Handles.{worker_view, worker_index, SameWorker}
use Rattle.tile_jobs.specs.Rule.{dealing}
use Rattle.tile_jobs.proofs.dealer.push_jobs.Given as goal

abbrev pub invariant-loop-round : goal.invariant-loop-round
invariant-loop-round g l = record {
  same : SameWorker l.initial.worker l.worker;
  index : worker_index l.worker ≡ l.round;
  view : worker_view l.worker ≡ dealing l.jobs l.seats l.v (worker_index l.worker);
}
