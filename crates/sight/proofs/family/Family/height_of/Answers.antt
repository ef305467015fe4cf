use Rattle.std.proofs.Common.{◌∙◌, sym}
use Rattle.sight.proofs.family.Family.height_of.Goals as goal

pub returns-in-Some-clause-height : goal.returns-in-Some-clause-height
returns-in-Some-clause-height c h is = c.requires.heights c.in-Some.index h (sym c.height_at.ensures ∙ is)
