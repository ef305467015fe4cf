use Rattle.ascii_grid.proofs.Feeding.{fault_stays}
use Rattle.ascii_grid.proofs.laws.faults_stay.Goals as goal

pub returns : goal.returns
returns c = fault_stays
