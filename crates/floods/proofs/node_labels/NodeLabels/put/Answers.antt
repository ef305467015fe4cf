use Rattle.floods.proofs.LabelNumbers.{one_put}
use Rattle.floods.proofs.node_labels.NodeLabels.put.Goals as goal

pub returns : goal.returns
returns c = rw (← c.self.view_is) (one_put _ _ _ c.requires.label)
