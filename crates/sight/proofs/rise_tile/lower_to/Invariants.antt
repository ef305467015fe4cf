use Rattle.std.proofs.Common.{◌≡◌, ℕ, ◌<◌, ◌≤◌, false, get_or, None}
use Rattle.sight.specs.Lowered.{lowered_to}
use Rattle.sight.proofs.rise_tile.lower_to.Given as goal

abbrev pub invariant-loop-index : goal.invariant-loop-index
invariant-loop-index l = record {
  done : (k : ℕ) → k < l.index → get_or l.values k None
      ≡ lowered_to (get_or l.flags k false) (get_or l.targets k 0) (get_or l.fn.values k None);
  left : (k : ℕ) → l.index ≤ k → get_or l.values k None ≡ get_or l.fn.values k None;
}
