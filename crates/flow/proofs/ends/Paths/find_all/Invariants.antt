use Rattle.std.proofs.Common.{ℕ, ◌<◌}
use Rattle.flow.specs.Finding.{AreKnown, IsKnown}
use Rattle.flow.proofs.ends.Paths.find_all.Given as goal

abbrev pub invariant-loop-node : goal.invariant-loop-node
invariant-loop-node g l = record {
  found : AreKnown (g.L.Links.list l.self.links.now) (g.N.EndNumbering.numbers l.self.numbers.now).number l.found;
  early : (i : ℕ) → i < l.node → IsKnown l.found i;
}
