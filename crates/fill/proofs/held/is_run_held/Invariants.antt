use Rattle.std.proofs.Common.{ℕ, ◌<◌, ◌≤◌}
use Rattle.fill.specs.Held.{IsHeld}
use Rattle.fill.proofs.held.is_run_held.Given as goal

abbrev pub invariant-loop-index : goal.invariant-loop-index
invariant-loop-index l = (i : ℕ) → l.first ≤ i → i < l.index → IsHeld l.cols l.cells i
