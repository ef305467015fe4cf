use Rattle.std.proofs.Common.{arith}
use Rattle.drain.proofs.Spreading.{pulled_set, spread_low}
use Rattle.drain.proofs.search.pull_at.Goals as goal

pub returns-in_ok-push-clause-pulled : goal.returns-in_ok-push-clause-pulled
returns-in_ok-push-clause-pulled c =
    pulled_set _ _ _ _ c.index-index.ensures.value c.requires.spot c.requires.before
    c.least_around-least.ensures.one c.if-least-own.true c.in_ok-push.ensures.items

pub least_around-least-requires-clause-own : goal.least_around-least-requires-clause-own
least_around-least-requires-clause-own c =
    rw (← c.index-index.ensures.value) (omega (arith, spread_low c.requires.before.spread c.index-index.result))
