use Rattle.std.proofs.Common.{ℕ, ◌-◌, ◌<◌, ◌≤◌, length, get_or}
use Rattle.fill.specs.declared.spill_graph.Join.{Join}
use Rattle.fill.proofs.spill_graph.end_of.Given as goal

abbrev pub invariant-loop-end : goal.invariant-loop-end
invariant-loop-end l = record {
  from : l.start ≤ l.end;
  few : l.end ≤ length l.joins;
  below : (k : ℕ) (d : Join) → k < l.end → (get_or l.joins k d).from ≤ l.node;
}

abbrev pub decreases-loop-end : goal.decreases-loop-end
decreases-loop-end l = length l.joins - l.end
