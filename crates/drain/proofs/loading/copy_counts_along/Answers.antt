use Rattle.std.proofs.Common.{get_or, ap, ◌∙◌}
use Rattle.drainage.specs.StepCounts.{known}
use Rattle.tile_maps.proofs.TileLists.{set_next}
use Rattle.drain.proofs.TileLists.{copied}
use Rattle.drain.proofs.loading.copy_counts_along.Goals as goal

pub loop-col-preserved : goal.loop-col-preserved
loop-col-preserved c =
    let count = c.of.ensures.stored ∙ ap (λ n. known (get_or c.args.counts.now n 0)) c.index.ensures.value in
    set_next c.args.row c.loop-col.col c.index_in.result c.loop-col.list c.of.result c.requires.row c.loop-col-test.true
    c.index_in.ensures c.loop-col.invariant
    (copied c.args.window.now.bounds c.args.counts.now c.args.row c.loop-col.col c.of.result count)
