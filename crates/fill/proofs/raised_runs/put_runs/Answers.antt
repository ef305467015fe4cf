use Rattle.std.proofs.Common.{sym}
use Rattle.std.proofs.lemmas.List.{take_all, take_more}
use Rattle.fill.specs.RaisedRuns.{IsInRun}
use Rattle.fill.proofs.RaisedRuns.{in_pushed, patched_none, patched_run, patched_then}
use Rattle.fill.proofs.raised_runs.put_runs.Goals as goal

pub loop-run-init : goal.loop-run-init
loop-run-init c raised all = patched_none IsInRun raised _

pub loop-run-preserved : goal.loop-run-preserved
loop-run-preserved c raised all =
    let i = c.loop-run.run-index in
    let r = c.run-item.result in
    let read = sym c.run-item.is in
    rw (take_more _ i r c.loop-run-test.true, read)
    (patched_then _ (in_pushed IsInRun _ r) (c.loop-run.invariant raised all)
    (patched_run r (λ k inside. all r k (i, c.loop-run-test.true, read) inside) c.put_run.ensures))

pub returns : goal.returns
returns c raised all = rw (take_all _ _ c.loop-run-test.false) at c.loop-run.invariant raised all
