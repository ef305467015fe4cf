use Rattle.std.proofs.Common.{ap, arith}
use Rattle.std.proofs.lemmas.List.{with_items_is}
use Rattle.drain.specs.Counts.{count_sum}
use Rattle.drain.proofs.rounds.run_rounds.Goals as goal

pub found_by_jobs-requires-clause-changes : goal.found_by_jobs-requires-clause-changes
found_by_jobs-requires-clause-changes g c =
    λ κs alive. rw (c.deref-in-loop-changes.ensures.value, c.new.ensures.value, c.deref.ensures.value)
    c.loop-changes.invariant.changes

pub put_all-requires-clause-changes : goal.put_all-requires-clause-changes
put_all-requires-clause-changes g c =
    rw c.deref-in-loop-changes-2.ensures.value (rw c.new.ensures.value at c.in_ok-outs.ensures.found)

pub changes_after-requires : goal.changes_after-requires
changes_after-requires g c =
    rw (c.deref-in-loop-changes-4.ensures.value, c.new-input.ensures.value)
    (rw c.new.ensures.value at c.in_ok-outs.ensures.found)

pub loop-changes-preserved : goal.loop-changes-preserved
loop-changes-preserved g c =
    let steps = c.loop-changes.steps in
    let inv = c.loop-changes.invariant in
    let put = c.put_all.ensures in
    let whole = with_items_is steps c.put_all.new.steps
    (omega (arith, put.counts.size, inv.counts.size, steps.ok.0)) in
    let sum = ap count_sum whole in
    let before = ap count_sum c.deref_mut.ensures.value in
    record {
      counts = rw whole put.counts;
      changes = rw (c.new-input.ensures.value, c.deref-in-loop-changes-3.ensures.value) at c.in_ok-changes.ensures;
      low = omega (arith, sum, before, put.low, inv.low);
    }
