use Rattle.std.proofs.Common.{ℕ, Vec, Global, sym}
use Rattle.std.proofs.lemmas.List.{take_all, take_more}
use Rattle.fill.specs.RaisedRuns.{IsInRuns}
use Rattle.fill.specs.declared.raised_runs.RaisedRun.{RaisedRun}
use Rattle.fill.proofs.RaisedRuns.{in_pushed, patched_none, patched_then}
use Rattle.fill.proofs.raised_runs.put_all.Goals as goal

abbrev is_in : Vec RaisedRun Global → ℕ → Type 0
is_in v i = IsInRuns v.items i

pub loop-runs-init : goal.loop-runs-init
loop-runs-init c raised all = patched_none is_in raised _

pub loop-runs-preserved : goal.loop-runs-preserved
loop-runs-preserved c raised all =
    let i = c.loop-runs.runs-index in
    let v = c.runs-item.result in
    let read = sym c.runs-item.is in
    rw (take_more _ i v c.loop-runs-test.true, read)
    (patched_then _ (in_pushed is_in _ _) (c.loop-runs.invariant raised all)
    ((rw c.deref.ensures.value at c.put_runs.ensures) raised (all v (i, c.loop-runs-test.true, read))))

pub returns : goal.returns
returns c raised all = rw (take_all _ _ c.loop-runs-test.false) at c.loop-runs.invariant raised all
