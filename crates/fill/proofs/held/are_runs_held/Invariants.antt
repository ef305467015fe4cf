use Rattle.std.proofs.Common.{take}
use Rattle.fill.specs.Held.{AreHeldRuns}
use Rattle.fill.proofs.held.are_runs_held.Given as goal

abbrev pub invariant-loop-run : goal.invariant-loop-run
invariant-loop-run l = AreHeldRuns l.cols l.cells (take l.run-index l.runs)
