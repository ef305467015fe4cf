use Rattle.fill.specs.RaisedRuns.{PutsRun}
use Rattle.fill.proofs.RaisedRuns.{up_to}
use Rattle.fill.proofs.raised_runs.put_run.Given as goal

abbrev pub invariant-loop-index : goal.invariant-loop-index
invariant-loop-index l = PutsRun (up_to l.fn.run l.index) l.initial.cells l.cells
