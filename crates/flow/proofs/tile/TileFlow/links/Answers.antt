use Rattle.std.proofs.Common.{ap, ◌∙◌}
use Rattle.flow.specs.TileLinks.{links_by}
use Rattle.flow.proofs.tile.TileFlow.links.Goals as goal

pub returns-clause-codes : goal.returns-clause-codes
returns-clause-codes c = cc

pub returns-clause-links : goal.returns-clause-links
returns-clause-links c = c.links.ensures.links ∙ ap (λ f. links_by f.bounds f.codes) c.self.view_is
