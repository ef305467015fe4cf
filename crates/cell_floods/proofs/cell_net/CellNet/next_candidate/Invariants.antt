use Rattle.std.proofs.Common.{◌≤◌, ◌-◌, length}
use Rattle.floods.specs.Walk.{HasNoSource}
use Rattle.cell_floods.specs.Cells.{source_of}
use Rattle.cell_floods.proofs.cell_net.CellNet.next_candidate.Given as goal

abbrev pub invariant-loop-node : goal.invariant-loop-node
invariant-loop-node l = record {
  from : l.from ≤ l.node;
  inside : l.node ≤ length l.self.cells;
  passed : HasNoSource (source_of l.self) l.from l.node;
}

abbrev pub decreases-loop-node : goal.decreases-loop-node
decreases-loop-node l = length l.self.cells - l.node
