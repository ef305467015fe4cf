use Rattle.std.proofs.Common.{subst}
use Rattle.drain.specs.Counts.{AreChanges, Jobs}
use Rattle.drain.proofs.rounds.RoundWork.run.Goals as goal

pub returns-clause-given : goal.returns-clause-given
returns-clause-given c =
    subst (λ (j : Jobs). AreChanges j.counted.terrain j.counted.steps c.in_ok-found.found.changes.items)
    c.self.view_is c.in_ok-found.ensures
