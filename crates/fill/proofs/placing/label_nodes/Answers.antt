use Rattle.std.proofs.Common.{refl}
use Rattle.std.proofs.lemmas.Option.{slice_get_read}
use Rattle.fill.proofs.CellLabels.{all_within}
use Rattle.fill.proofs.Gathered.{labels_within}
use Rattle.fill.proofs.placing.label_nodes.Goals as goal

pub push_nodes-requires : goal.push_nodes-requires
push_nodes-requires c =
    let floods = c.args.floods.now in
    rw c.labels.ensures.value (all_within c.flood-item.result _ _ c.labels.ensures.lawful.labels c.args.tiling.now
    c.labels.ensures.lawful.table (labels_within c.requires.0 _ floods _ _ c.requires.1
    (slice_get_read floods _ _ _ refl c.loop-flood-test.true c.flood-item.is)))
