use Rattle.std.proofs.Common.{arith}
use Rattle.drain.proofs.rounds.found_by_jobs.Goals as goal

pub invariant_of-round : goal.invariant_of-round
invariant_of-round g c =
    let shares = c.in_ok-shares.ensures in
    record {
      entries = rw c.deref.ensures.value shares.entries;
      runs = rw (c.deref-2.ensures.value, c.deref.ensures.value) shares.runs;
    }

pub returns-clause-found : goal.returns-clause-found
returns-clause-found g c = λ k d below j x inside.
    (c.in_ok-outs.ensures.given k d (omega (arith, below, c.in_ok-outs.ensures.len, c.in_ok-outs.outs.ok.0))
    j x inside).counted
