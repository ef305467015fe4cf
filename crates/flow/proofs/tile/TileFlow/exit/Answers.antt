use Rattle.std.proofs.Common.{ap, ◌∙◌}
use Rattle.flow.specs.TileFlow.{exit_in}
use Rattle.flow.proofs.tile.TileFlow.exit.Goals as goal

pub returns : goal.returns
returns c = c.exit.ensures ∙ ap (λ f. exit_in f c.args.place) c.self.view_is
