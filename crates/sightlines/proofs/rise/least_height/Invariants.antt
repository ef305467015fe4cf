use Rattle.std.proofs.Common.{◌-◌, ◌≡◌, ℕ, ◌<◌, ◌≤◌, false}
use Rattle.sightlines.specs.Sight.{is_seen}
use Rattle.sightlines.proofs.rise.least_height.Given as goal

abbrev pub invariant-loop-height : goal.invariant-loop-height
invariant-loop-height l = record {
  most : l.height ≤ l.limit;
  hidden : (h : ℕ) → h < l.height → is_seen l.grid.terrain l.observer l.target h l.radius ≡ false;
}

abbrev pub decreases-loop-height : goal.decreases-loop-height
decreases-loop-height l = l.limit - l.height
