use Rattle.std.proofs.Common.{ℕ, ◌<◌, ◌≤◌, ◌≡◌, ◌⊎◌, length}
use Rattle.flow.specs.Sending.{AreMarks, IsMarked}
use Rattle.flow.proofs.Ending.{moves_left}
use Rattle.flow.proofs.streams.mark_path.Given as goal

abbrev pub invariant-path : goal.invariant-path
invariant-path g l = record {
  marks : AreMarks (g.L.Links.list l.links) l.waits l.node l.donors;
  inside : l.node < length (g.L.Links.list l.links);
  few : l.donors ≤ 1;
  kept : (i : ℕ) → IsMarked l.initial.waits i → IsMarked l.waits i;
  marked : (l.node ≡ l.from) ⊎ IsMarked l.waits l.from;
}

abbrev pub decreases-path : goal.decreases-path
decreases-path g l = moves_left (g.L.Links.list l.links) l.node
