use Rattle.std.proofs.Common.{◌≡◌, ℕ, ◌<◌, ◌≤◌, Some}
use Rattle.std.specs.Prelude.{slice_get}
use Rattle.horizons.specs.declared.target.Target.{Target}
use Rattle.sight.specs.Looking.{LooksFrom}
use Rattle.sight.specs.Raising.{AreTargetHeights, IsRaisedIn}
use Rattle.sight.proofs.EachRay.{AreMetBelow}
use Rattle.sight.proofs.raising.raise_over.Given as goal

abbrev pub invariant-loop-number : goal.invariant-loop-number
invariant-loop-number l = record {
  looks : LooksFrom l.cells l.family l.ranked.targets.items l.lookup.line l.lookup;
  some : 0 < l.lookup.line;
  line : (u : ℕ) (t : Target) → l.number ≤ u → slice_get l.ray-items u ≡ Some t →
      l.lookup.line ≤ t.line;
  most : AreTargetHeights l.targets;
  targets : AreMetBelow 0 (IsRaisedIn l.cells l.family l.extent l.flags) l.family l.extent l.ray-items l.number
      l.fn.targets l.targets;
}
