use Rattle.std.proofs.Common.{◌∙◌, arith}
use Rattle.terrain.specs.Sinks.{with_sinks}
use Rattle.tiles.specs.Cutting.{terrain_of}
use Rattle.cell_floods.proofs.EndCells.{one_end, all_ends}
use Rattle.cell_floods.proofs.ends.end_heights.Goals as goal

pub loop-index-preserved : goal.loop-index-preserved
loop-index-preserved c named sinks =
    one_end (with_sinks (terrain_of c.args.view.now) named)
    c.args.labels.now.places c.loop-index.index _ _ c.end_height.result c.in_ok-push.ensures.items
    (λ e. c.end_height.ensures.none (c.place.ensures ∙ e))
    (λ p e. c.end_height.ensures.some named p sinks (c.place.ensures ∙ e)) (c.loop-index.invariant named sinks)

pub returns : goal.returns
returns c named sinks =
    all_ends (with_sinks (terrain_of c.args.view.now) named) c.args.labels.now.places c.loop-index.index _
    (omega (arith, c.loop-index.auto.index-end, c.count-index-end.ensures.value))
    (omega (arith, c.loop-index-test.false, c.count-index-end.ensures.value)) (c.loop-index.invariant named sinks)
