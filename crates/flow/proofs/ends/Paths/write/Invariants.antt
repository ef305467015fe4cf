use Rattle.std.proofs.Common.{◌≡◌, ℕ, ◌<◌, ◌⊎◌, length}
use Rattle.flow.specs.Streams.{end_of}
use Rattle.flow.specs.Finding.{AreKnown, IsKnown}
use Rattle.flow.proofs.Ending.{writes_left}
use Rattle.flow.proofs.ends.Paths.write.Given as goal

abbrev pub invariant-path : goal.invariant-path
invariant-path g l = record {
  found : AreKnown (g.L.Links.list l.self.links.now) (g.N.EndNumbering.numbers l.self.numbers.now).number l.found;
  inside : l.node < length (g.L.Links.list l.self.links.now);
  number : l.number ≡ (g.N.EndNumbering.numbers l.self.numbers.now).number (end_of (g.L.Links.list l.self.links.now)
      l.node);
  kept : (i : ℕ) → IsKnown l.initial.found i → IsKnown l.found i;
  known : (l.node ≡ l.from) ⊎ IsKnown l.found l.from;
}

abbrev pub decreases-path : goal.decreases-path
decreases-path g l = writes_left (g.L.Links.list l.self.links.now) l.found l.node
