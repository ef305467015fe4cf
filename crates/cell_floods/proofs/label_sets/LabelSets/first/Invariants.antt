use Rattle.cell_floods.proofs.label_sets.LabelSets.first.Given as goal

abbrev pub decreases-loop-parent : goal.decreases-loop-parent
decreases-loop-parent l = l.node
