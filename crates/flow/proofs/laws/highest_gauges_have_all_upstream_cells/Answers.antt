use Rattle.terrain.proofs.Listed.{any_from_listed, listed_from_any}
use Rattle.flow.proofs.CatchmentLaws.{caught_count}
use Rattle.flow.proofs.Together.{drained_ending, drained_coded}
use Rattle.flow.proofs.laws.highest_gauges_have_all_upstream_cells.Goals as goal

pub returns : goal.returns
returns c d gauges g terrain draining is named alone =
    caught_count (drained_ending d terrain draining) gauges (drained_coded d draining g is)
    (any_from_listed g gauges named) (λ h there apart. alone h (listed_from_any h gauges there) apart)
