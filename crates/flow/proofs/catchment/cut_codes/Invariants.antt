use Rattle.std.proofs.Common.{take}
use Rattle.flow.specs.CutCodes.{AreCutCodes}
use Rattle.flow.proofs.catchment.cut_codes.Given as goal

abbrev pub invariant-loop-gauge : goal.invariant-loop-gauge
invariant-loop-gauge l = AreCutCodes l.tiling.cols l.tiling.rows l.codes (take l.gauge-index l.gauges) l.cut.items
