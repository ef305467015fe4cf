use Rattle.cell_floods.proofs.Runs.{part_there, there_part}
use Rattle.cell_floods.proofs.cell_net.have_data_from.Goals as goal

pub returns : goal.returns
returns c = (
  λ yes.
      part_there c.args.cells.now c.args.first c.args.count c.requires (c.have_data.ensures.0 yes),
  λ all.
      c.have_data.ensures.1 (there_part c.args.cells.now c.args.first c.args.count c.requires all),
)
