use Rattle.std.proofs.Common.{◌≡◌, ◌≤◌, ◌-◌, [], length}
use Rattle.cell_floods.specs.Spreading.{HasSources}
use Rattle.cell_floods.proofs.spreading.Spreading.of_sources.Given as goal

abbrev pub invariant-loop-node : goal.invariant-loop-node
invariant-loop-node l = record {
  net : l.spreading.net.now ≡ l.net;
  levels : l.spreading.levels.items ≡ l.net.cells;
  meetings : l.spreading.meetings.items ≡ [];
  inside : l.node ≤ length l.net.cells;
  sources : HasSources l.node l.net l.spreading.labels.items;
}

abbrev pub decreases-loop-node : goal.decreases-loop-node
decreases-loop-node l = l.count - l.node
