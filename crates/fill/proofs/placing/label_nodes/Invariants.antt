use Rattle.std.proofs.Common.{◌≡◌, take}
use Rattle.fill.specs.Numbers.{nodes_of}
use Rattle.fill.proofs.placing.label_nodes.Given as goal

abbrev pub invariant-loop-flood : goal.invariant-loop-flood
invariant-loop-flood l = l.nodes.items ≡ nodes_of l.tiling.cols (take l.flood-index l.floods)
