use Rattle.std.proofs.Common.{ℕ, ◌-◌, ◌<◌, ◌≤◌, length, get_or}
use Rattle.fill.specs.declared.spill_graph.Join.{Join}
use Rattle.fill.proofs.spill_graph.first_from.Given as goal

abbrev pub invariant-loop-low : goal.invariant-loop-low
invariant-loop-low l = record {
  low : l.low ≤ l.high;
  high : l.high ≤ length l.joins;
  below : (k : ℕ) (d : Join) → k < l.low → (get_or l.joins k d).from < l.node;
  above : (k : ℕ) (d : Join) → l.high ≤ k → k < length l.joins → l.node ≤ (get_or l.joins k d).from;
}

abbrev pub decreases-loop-low : goal.decreases-loop-low
decreases-loop-low l = l.high - l.low
