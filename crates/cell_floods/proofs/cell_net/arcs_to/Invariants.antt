use Rattle.std.proofs.Common.{◌≡◌, ◌≤◌, length, take}
use Rattle.std.specs.List.{filter_map}
use Rattle.cell_floods.specs.Cells.{arc_to}
use Rattle.cell_floods.proofs.cell_net.arcs_to.Given as goal

abbrev pub invariant-loop-to : goal.invariant-loop-to
invariant-loop-to l = record {
  room : l.arcs.capacity ≡ 8;
  few : length l.arcs.items ≤ l.to-index;
  arcs : l.arcs.items ≡ filter_map (arc_to l.cells l.height) (take l.to-index l.to-items);
}
