use Rattle.tile_jobs.specs.Ends.{SameSeat}
use Rattle.base_tests.proofs.boards.take_all.Given as goal

abbrev pub invariant-loop : goal.invariant-loop
invariant-loop g l = SameSeat l.fn.seat l.seat
