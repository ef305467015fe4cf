use Rattle.std.proofs.Common.{ap, ◌∙◌}
use Rattle.terrain.specs.Raster.{Terrain}
use Rattle.flow.specs.Catchments.{gauges_fault}
use Rattle.relief.proofs.Gauging.{filled_gauges}
use Rattle.relief.proofs.making.find_directions.Goals as goal

pub returns-clause-gauges : goal.returns-clause-gauges
returns-clause-gauges g c gauges =
    ap (λ (t : Terrain). gauges_fault t gauges) c.in_ok-directions.ensures.terrain
    ∙ filled_gauges c.args.grid c.in_ok-filled.filled c.in_ok-filled.ensures.filled gauges
