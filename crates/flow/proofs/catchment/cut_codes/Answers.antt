use Rattle.std.proofs.Common.{◌≡◌, ◌<◌, Some, length, get_or, set, ap, ◌∙◌, arith}
use Rattle.terrain.specs.Neighbours.{index_of}
use Rattle.terrain.proofs.Places.{make_place}
use Rattle.flow.proofs.CutLists.{cut_next, gauge_inside, index_at}
use Rattle.flow.proofs.catchment.cut_codes.Goals as goal

pub loop-gauge-preserved : goal.loop-gauge-preserved
loop-gauge-preserved c =
    let t = c.args.tiling.now in
    let gauges = c.args.gauges.now in
    let k = c.loop-gauge.gauge-index in
    let below : k < length gauges = omega (arith, c.loop-gauge-test.true) in
    let g = get_or gauges k (make_place 0 0) in
    let index : c.index_in.result ≡ index_of t.cols g =
    index_at gauges k _ (make_place 0 0) below c.cols-cols.ensures.value c.index_in.ensures in
    cut_next gauges k (make_place 0 0) c.requires.size below (gauge_inside t.cols t.rows c.args.codes.now gauges k
    (make_place 0 0) below c.requires.coded) (ap (λ i. set c.loop-gauge.cut.items i (Some c.outlet.result)) index ∙
    ap (λ x. set c.loop-gauge.cut.items (index_of t.cols g) (Some x)) c.outlet.ensures) c.loop-gauge.invariant
