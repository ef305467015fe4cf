use Rattle.std.proofs.Common.{◌≢◌, ℕ, ◌<◌, get_or}
use Rattle.flow.specs.Sending.{AreMarks, IsMarked}
use Rattle.flow.proofs.streams.mark_paths.Given as goal

abbrev pub invariant-loop-node : goal.invariant-loop-node
invariant-loop-node g l = record {
  marks : AreMarks (g.L.Links.list l.links) l.waits 0 0;
  early : (i : ℕ) → i < l.node → get_or l.weights i 0 ≢ 0 → IsMarked l.waits i;
}
