use Rattle.std.proofs.Common.{◌≡◌, ℕ, ◌<◌, ◌≤◌, false, Some}
use Rattle.std.specs.Prelude.{slice_get}
use Rattle.horizons.specs.declared.target.Target.{Target}
use Rattle.sight.specs.Looking.{LooksFrom}
use Rattle.sight.specs.Hiding.{IsFlagLeft}
use Rattle.sight.proofs.EachRay.{AreMetBelow}
use Rattle.sight.proofs.hiding.hide.Given as goal

abbrev pub invariant-loop-number : goal.invariant-loop-number
invariant-loop-number l = record {
  looks : LooksFrom l.cells l.family l.ranked.targets.items l.lookup.line l.lookup;
  some : 0 < l.lookup.line;
  line : (u : ℕ) (t : Target) → l.number ≤ u → slice_get l.ray-items u ≡ Some t →
      l.lookup.line ≤ t.line;
  flags : AreMetBelow false (IsFlagLeft l.cells l.family l.height) l.family l.extent l.ray-items l.number
      l.fn.flags l.flags;
}
