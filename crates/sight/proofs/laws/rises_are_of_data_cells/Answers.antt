use Rattle.sight.proofs.Rises.{of_data}
use Rattle.sight.proofs.laws.rises_are_of_data_cells.Goals as goal

pub returns : goal.returns
returns c = of_data
