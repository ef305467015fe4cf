use Rattle.std.proofs.Common.{◌<◌, length, arith}
use Rattle.terrain.proofs.Places.{make_place}
use Rattle.flow.proofs.CutLists.{number_next}
use Rattle.flow.proofs.gauges.GaugeNumbers.of_gauges.Goals as goal

pub loop-index-preserved : goal.loop-index-preserved
loop-index-preserved c i =
    let below : c.loop-index.index < length c.args.gauges.now = omega arith in
    grind (arith, number_next c.args.tiling.now.cols _ _ i (make_place 0 0) below)
