use Rattle.flow.proofs.CatchmentLaws.{catchment_kept}
use Rattle.flow.proofs.laws.gauges_change_cells_upstream_alone.Goals as goal

pub returns : goal.returns
returns c d gauges g p past = catchment_kept _ gauges g p past
