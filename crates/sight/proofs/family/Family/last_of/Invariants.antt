use Rattle.std.proofs.Common.{ℤ, pos, ◌-ℤ◌, ◌≤ℤ◌, ◌<ℤ◌, unsigned_abs}
use Rattle.horizons.specs.declared.target.Target.{Target}
use Rattle.horizons.specs.Horizons.{IsTarget}
use Rattle.sight.specs.Sweep.{Passes, IsShadow}
use Rattle.sight.proofs.family.Family.last_of.Given as goal

abbrev pub invariant-loop-self : goal.invariant-loop-self
invariant-loop-self l = record {
  range : (l.fn.first ≤ℤ l.last) × (l.last ≤ℤ pos 4096);
  shows : (b : ℤ) (t : Target) → l.fn.first <ℤ b → b ≤ℤ l.last → IsTarget t → Passes l.line b t →
      IsShadow l.cells l.self l.line t l.ramp;
}

abbrev pub decreases-loop-self : goal.decreases-loop-self
decreases-loop-self l = unsigned_abs (pos 4096 -ℤ l.last)
