use Rattle.std.proofs.Common.{◌∷◌, ◌++◌, [], inl, inr, take, ap, sym, subst, ◌∙◌}
use Rattle.std.proofs.lemmas.List.{take_all, take_more}
use Rattle.fill.specs.RaisedRuns.{IsInRun, IsInRuns}
use Rattle.fill.proofs.RaisedRuns.{in_pushed}
use Rattle.fill.proofs.held.are_runs_held.Goals as goal

pub loop-run-preserved : goal.loop-run-preserved
loop-run-preserved c i is =
    let runs = c.args.runs.now in
    let k = c.loop-run.run-index in
    let r = c.run-item.result in
    elim ((in_pushed IsInRun _ r i).0
    (subst (λ z. IsInRuns z i)
    (take_more runs k r c.loop-run-test.true ∙ ap (λ x. take k runs ++ x ∷ []) (sym c.run-item.is)) is)) [
      | inl early ↦ c.loop-run.invariant i early
      | inr here ↦ c.if-not-is_run_held.ensures i here
    ]

pub returns : goal.returns
returns c = rw (take_all _ _ c.loop-run-test.false) at c.loop-run.invariant
