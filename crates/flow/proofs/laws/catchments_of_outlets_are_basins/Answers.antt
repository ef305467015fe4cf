use Rattle.flow.proofs.OutletGauges.{basins_are}
use Rattle.flow.proofs.Together.{drained_ending, drained_coded}
use Rattle.flow.proofs.laws.catchments_of_outlets_are_basins.Goals as goal

pub returns : goal.returns
returns c = λ d p terrain draining is. basins_are (drained_ending d terrain draining) draining.codes_size p
    (drained_coded d draining p is)
