use Rattle.std.proofs.Common.{◌≡◌, ℕ, ◌<◌, ◌≤◌, false, get_or, None}
use Rattle.sight.specs.Viewed.{counted}
use Rattle.sight.proofs.tile.count_seen.Given as goal

abbrev pub invariant-loop-index : goal.invariant-loop-index
invariant-loop-index l = record {
  done : (k : ℕ) → k < l.index →
      get_or l.values k None ≡ counted (get_or l.fn.values k None) (get_or l.seen k false);
  left : (k : ℕ) → l.index ≤ k → get_or l.values k None ≡ get_or l.fn.values k None;
}
