use Rattle.std.proofs.Common.{◌≡◌, ◌≤◌, ◌+◌, ◌-◌, ◌^◌}
use Rattle.drain.specs.Counts.{AreChanges}
use Rattle.drain.proofs.lowering.search.Given as goal

abbrev pub invariant-loop-next : goal.invariant-loop-next
invariant-loop-next l = record {
  bounds : l.lowered.bounds ≡ l.bounds;
  changes : AreChanges l.input.terrain l.input.steps l.lowered.changes.items;
  next : l.next ≤ l.run.end;
}

-- each turn takes an entry or one of the first 2^18 changes
abbrev pub decreases-loop-next : goal.decreases-loop-next
decreases-loop-next l = (l.run.end - l.next) + (2 ^ 18 - l.done)
