use Rattle.std.proofs.Common.{◌≡◌, None, get_or, is_none, take}
use Rattle.std.specs.List.{list_any}
use Rattle.cell_floods.proofs.cell_net.any_gap.Given as goal

abbrev pub invariant-loop-node : goal.invariant-loop-node
invariant-loop-node l = l.any ≡ list_any (λ b. is_none (get_or l.cells b None)) (take l.node-index l.around)
