use Rattle.std.proofs.Common.{◌≡◌, ◌+◌, ◌-◌, ◌<◌, ◌≤◌, ℕ, true, false}
use Rattle.horizons.specs.Horizons.{IsUpTo, hides}
use Rattle.sightlines.specs.Sight.{highest_eye}
use Rattle.sight.specs.Hiding.{rise_at}
use Rattle.sight.specs.Sweep.{IsAtCell}
use Rattle.sight.proofs.looking.SweepLookup.raise.Given as goal

abbrev pub invariant-loop-clear : goal.invariant-loop-clear
invariant-loop-clear l = record {
  order : (l.fn.height ≤ l.hidden) × (l.hidden < l.clear) × (l.clear ≤ highest_eye + 1);
  blocked : (y : ℕ) → IsAtCell l.family y l.target →
      hides l.fn.self.sweep.highest l.rank l.target (rise_at l.cells l.family l.hidden l.target.line y)
      ≡ true;
  clear : (y : ℕ) → IsAtCell l.family y l.target → l.clear ≤ highest_eye →
      hides l.fn.self.sweep.highest l.rank l.target (rise_at l.cells l.family l.clear l.target.line y)
      ≡ false;
  line : l.self.line ≡ l.fn.self.line;
  highest : l.self.sweep ≡ l.fn.self.sweep;
  cursor : IsUpTo l.self.sweep.highest l.self.cursor l.self.last;
}

abbrev pub decreases-loop-clear : goal.decreases-loop-clear
decreases-loop-clear l = l.clear - l.hidden
