use Rattle.ascii_grid.specs.declared.fault.GridFault.TheVariants.{Memory}
use Rattle.ascii_grid.proofs.Feeding.{stays}
use Rattle.ascii_grid.proofs.laws.memory_refusals_stay.Goals as goal

pub returns : goal.returns
returns c = λ d text more h. stays d text more Memory h
