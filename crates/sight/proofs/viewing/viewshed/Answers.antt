use Rattle.sight.specs.Refusals.{observers_fault}
use Rattle.sight.proofs.Refused.{not_jobs, refuses}
use Rattle.sight.proofs.Uniqueness.{whole_viewed}
use Rattle.sight.proofs.viewing.viewshed.Goals as goal

pub returns-in-Some-clause-refusals : goal.returns-in-Some-clause-refusals
returns-in-Some-clause-refusals g c =
    let t = c.args.grid.now.terrain in
    let os = c.args.observers.now in
    let fault = observers_fault t os c.args.target_height c.args.radius in
    let reported = rw c.first_fault.ensures at c.in-Some.is in
    refuses fault _ _ (λ job. not_jobs job t os c.args.target_height c.args.radius) reported

pub returns-clause-values : goal.returns-clause-values
returns-clause-values g c = whole_viewed _ _ _ _ _ _ c.requires.given c.in_ok-values.ensures.made
