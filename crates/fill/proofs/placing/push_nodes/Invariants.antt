use Rattle.std.proofs.Common.{◌≡◌, ◌++◌, map, take}
use Rattle.fill.specs.Numbers.{node_of_label}
use Rattle.fill.proofs.placing.push_nodes.Given as goal

abbrev pub invariant-loop-index : goal.invariant-loop-index
invariant-loop-index l = l.nodes.items ≡ l.initial.nodes.items
    ++ map (node_of_label l.tiling.cols) (take l.index l.labels.places)
