use Rattle.std.proofs.lemmas.List.{take_all}
use Rattle.floods.specs.Notes.{label_of}
use Rattle.floods.proofs.Noting.{mapped_more}
use Rattle.floods.proofs.flooding.list_of_labels.Goals as goal

pub loop-number-preserved : goal.loop-number-preserved
loop-number-preserved c =
    mapped_more label_of _ _ 0 _ _ _ c.loop-number-test.true c.loop-number.invariant c.in_ok-push.ensures.items
    c.label_of.ensures

pub returns : goal.returns
returns c = cc (take_all _ _ c.loop-number-test.false)
