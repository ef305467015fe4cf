use Rattle.std.proofs.Common.{◌≡◌, ℕ, ◌<◌, get_or, length}
use Rattle.fill.proofs.crests.Search.new.Given as goal

abbrev pub invariant-loop-label : goal.invariant-loop-label
invariant-loop-label l = record {
  size : length l.next.items ≡ l.label;
  each : (a : ℕ) → a < l.label → get_or l.next.items a 0 ≡ a;
}
