use Rattle.ascii_grid.proofs.Feeding.{lawful_text}
use Rattle.ascii_grid.proofs.laws.grids_are_lawful.Goals as goal

pub returns : goal.returns
returns c = lawful_text
