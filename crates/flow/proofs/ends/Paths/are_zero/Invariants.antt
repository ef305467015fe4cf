use Rattle.std.proofs.Common.{◌≡◌, ℕ, ◌<◌}
use Rattle.flow.specs.Streams.{next_node}
use Rattle.flow.proofs.ends.Paths.are_zero.Given as goal

abbrev pub invariant-loop-node : goal.invariant-loop-node
invariant-loop-node g l = (i : ℕ) → i < l.node → next_node (g.L.Links.list l.self.links.now) i ≡ i →
    (g.N.EndNumbering.numbers l.self.numbers.now).number i ≡ 0
