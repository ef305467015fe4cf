use Rattle.fill.proofs.RaisedRuns.{longer_run, new_run}
use Rattle.fill.proofs.raised_runs.RunList.add.Goals as goal

pub returns-then-goes_on_with : goal.returns-then-goes_on_with
returns-then-goes_on_with c =
    let l = c.args.self.now in
    let is = c.goes_on_with.ensures.0 c.if-goes_on_with.true in
    longer_run _ _ _ is.0 is.1

pub returns : goal.returns
returns c = rw c.in_ok-push.ensures.items (new_run _ _ _)
