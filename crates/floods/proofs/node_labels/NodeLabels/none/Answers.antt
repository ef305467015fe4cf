use Rattle.floods.proofs.LabelNumbers.{none_yet}
use Rattle.floods.proofs.node_labels.NodeLabels.none.Goals as goal

pub returns : goal.returns
returns c = rw (c.in_ok-numbers.ensures.items_if_clones_equal (λ y same. same)) (none_yet _)
