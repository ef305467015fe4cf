use Rattle.std.proofs.Common.{ℕ, ◌<◌}
use Rattle.tile_jobs.specs.Results.{HasResult, AreJobResults}
use Rattle.tile_jobs.specs.Board.{times}
use Rattle.tile_jobs.specs.Ends.{SameSeat}
use Rattle.tile_jobs.proofs.worker.work_seat.Given as goal

abbrev pub invariant-loop : goal.invariant-loop
invariant-loop g l = record {
  same : SameSeat l.initial.seat l.seat;
  right : AreJobResults (g.W.Work.gives l.work) l.initial.seat.own.jobs l.answers.items;
  whole : (j : ℕ) → 0 < times j l.seat.taken → HasResult l.answers.items j;
}
